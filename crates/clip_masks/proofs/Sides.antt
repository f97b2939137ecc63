-- A row of pixels against the corners at each of its sides.
use Rattle.std.proofs.Common.{◌≡◌, ℕ, ◌+◌, ◌<◌, ◌≤◌, inl, inr, ℤ, pos, ◌+ℤ◌, ◌-ℤ◌, ◌≤ℤ◌, Bool, true, false, ◌||◌, unsigned_abs, refl, sym, ◌∙◌, true≢false, arith}
use Rattle.std.proofs.lemmas.Int.{ints}
use Rattle.std.proofs.lemmas.Bool.{or_left, or_right, or_from, cases_lt}
use Rattle.clip_masks.specs.Outline.{Outline, eighths, excludes, samples_inside}
use Rattle.clip_masks.specs.Corners.{HasPixel, excludes_tip, outward, side_excludes}
use Rattle.clip_masks.specs.declared.side.Side.{Side}
use Rattle.clip_masks.proofs.Points.{excludes_beside, excludes_level, excludes_more, or_either, samples_gone, samples_whole}

-- a corner excludes no sample beside its centre
corner_clear : (r : ℕ × ℕ) (above n k : ℕ) → (above < r.1 → r.0 ≤ n) → n ≤ k → excludes r (outward k 1 +ℤ eighths (pos r.0)) (outward above 1 +ℤ eighths (pos r.1)) ≡ false
corner_clear r above n k f h = elim (cases_lt above r.1) [
  | inl less ↦ let wide = f less in excludes_beside r (outward k 1 +ℤ eighths (pos r.0)) (outward above 1 +ℤ eighths (pos r.1)) (omega (arith, ints))
  | inr more ↦ excludes_level r (outward k 1 +ℤ eighths (pos r.0)) (outward above 1 +ℤ eighths (pos r.1)) (omega (arith, ints))
]

pub reach_clear : (s : Side) (n k : ℕ) → (s.above < s.top.1 → s.top.0 ≤ n) → (s.below < s.bottom.1 → s.bottom.0 ≤ n) → n ≤ k → side_excludes s k 1 ≡ false
unfolding side_excludes
reach_clear s n k f g h = or_from _ _ (corner_clear s.top s.above n k f h) (corner_clear s.bottom s.below n k g h)

-- ---- what is excluded is excluded farther out

farther : (k j i h r : ℕ) → j ≤ k → h ≤ i → (outward k i +ℤ eighths (pos r)) ≤ℤ (outward j h +ℤ eighths (pos r))
farther k j i h r f g = omega (arith, ints)

pub side_more : (s : Side) (k j i h : ℕ) → j ≤ k → h ≤ i → side_excludes s k i ≡ true → side_excludes s j h ≡ true
unfolding side_excludes
side_more s k j i h f g e =
    or_either _ _ _ _
    (excludes_more s.top _ _ _ _ (farther k j i h s.top.0 f g) (farther s.above s.above i h s.top.1 (omega arith) g))
    (excludes_more s.bottom _ _ _ _ (farther k j i h s.bottom.0 f g) (farther s.below s.below i h s.bottom.1 (omega arith) g)) e

pub side_less : (s : Side) (k j i h : ℕ) → j ≤ k → h ≤ i → side_excludes s j h ≡ false → side_excludes s k i ≡ false
side_less s k j i h f g e = elim (side_excludes s k i) as (λ t. side_excludes s k i ≡ t → t ≡ false) [
  | true ↦ (λ more. absurd (true≢false (sym (side_more s k j i h f g more) ∙ e)))
  | false ↦ (λ _. refl)
] refl

-- ---- a shape's sides

abbrev pub left_side : Outline → ℕ → ℕ → Side
left_side s n m = record { top = s.radii.tl; bottom = s.radii.bl; above = n; below = m }

abbrev pub right_side : Outline → ℕ → ℕ → Side
right_side s n m = record { top = s.radii.tr; bottom = s.radii.br; above = n; below = m }

-- a pixel of the shape's rectangle, n rows from its top and m from its bottom, k pixels from its left and l from its right
pub record IsAt (s : Outline) (x y : ℤ) (n m k l : ℕ) : Type 0 where
  pub pixel : HasPixel s.rect x y
  pub top : y ≡ s.rect.y0 +ℤ pos n
  pub bottom : y +ℤ pos (1 + m) ≡ s.rect.y1
  pub left : x ≡ s.rect.x0 +ℤ pos k
  pub right : x +ℤ pos (1 + l) ≡ s.rect.x1

pub is_at : (s : Outline) (x y : ℤ) (n m : ℕ) → HasPixel s.rect x y → y ≡ s.rect.y0 +ℤ pos n → y +ℤ pos (1 + m) ≡ s.rect.y1 → IsAt s x y n m (unsigned_abs (x -ℤ s.rect.x0)) (unsigned_abs (s.rect.x1 -ℤ (x +ℤ pos 1)))
is_at s x y n m h e f = record { pixel = h; top = e; bottom = f; left = omega (arith, ints, h.left); right = omega (arith, ints, h.right) }

from_first : (x0 x : ℤ) (k r i : ℕ) → x ≡ x0 +ℤ pos k → eighths (x0 +ℤ pos r) -ℤ (eighths x +ℤ pos i) ≡ outward k i +ℤ eighths (pos r)
from_first x0 x k r i e = omega (arith, ints)

from_last : (x1 x : ℤ) (l r i j : ℕ) → i + j ≡ 8 → x +ℤ pos (1 + l) ≡ x1 → (eighths x +ℤ pos j) -ℤ eighths (x1 -ℤ pos r) ≡ outward l i +ℤ eighths (pos r)
from_last x1 x l r i j f e = omega (arith, ints)

regroup : (p q u v : Bool) → (p || q || u || v) ≡ ((p || v) || (q || u))
regroup true q u v = refl
regroup false true u true = refl
regroup false true u false = refl
regroup false false true true = refl
regroup false false true false = refl
regroup false false false true = refl
regroup false false false false = refl

-- the corners exclude what those of either side do
sides_exclude : (s : Outline) (x y : ℤ) (n m k l i j : ℕ) → i + j ≡ 8 → IsAt s x y n m k l
    → excludes_tip s (eighths x +ℤ pos i) (eighths y +ℤ pos i) (eighths x +ℤ pos j) (eighths y +ℤ pos j) ≡ (side_excludes (left_side s n m) k i || side_excludes (right_side s n m) l i)
unfolding side_excludes
sides_exclude s x y n m k l i j e at =
    let r = s.radii in
    let b = s.rect in
    let left = λ (r : ℕ). outward k i +ℤ eighths (pos r) in
    let right = λ (r : ℕ). outward l i +ℤ eighths (pos r) in
    let above = λ (r : ℕ). outward n i +ℤ eighths (pos r) in
    let below = λ (r : ℕ). outward m i +ℤ eighths (pos r) in
    rw (
      from_first b.x0 x k r.tl.0 i at.left,
      from_first b.y0 y n r.tl.1 i at.top,
      from_last b.x1 x l r.tr.0 i j e at.right,
      from_first b.y0 y n r.tr.1 i at.top,
      from_last b.x1 x l r.br.0 i j e at.right,
      from_last b.y1 y m r.br.1 i j e at.bottom,
      from_first b.x0 x k r.bl.0 i at.left,
      from_last b.y1 y m r.bl.1 i j e at.bottom,
    )
    (regroup (excludes r.tl (left r.tl.0) (above r.tl.1)) (excludes r.tr (right r.tr.0) (above r.tr.1)) (excludes r.br (right r.br.0) (below r.br.1)) (excludes r.bl (left r.bl.0) (below r.bl.1)))

pub solid_pixel : {s : Outline} {x y : ℤ} {n m k l : ℕ} → IsAt s x y n m k l → side_excludes (left_side s n m) k 1 ≡ false → side_excludes (right_side s n m) l 1 ≡ false → samples_inside s x y ≡ 16
solid_pixel {s = s} {x = x} {y = y} {n = n} {m = m} {k = k} {l = l} at e f = samples_whole s x y at.pixel (sides_exclude s x y n m k l 1 7 refl at ∙ or_from _ _ e f)

pub gone_left : {s : Outline} {x y : ℤ} {n m k l : ℕ} → IsAt s x y n m k l → side_excludes (left_side s n m) k 7 ≡ true → samples_inside s x y ≡ 0
gone_left {s = s} {x = x} {y = y} {n = n} {m = m} {k = k} {l = l} at e = samples_gone s x y at.pixel (sides_exclude s x y n m k l 7 1 refl at ∙ or_left _ _ e)

pub gone_right : {s : Outline} {x y : ℤ} {n m k l : ℕ} → IsAt s x y n m k l → side_excludes (right_side s n m) l 7 ≡ true → samples_inside s x y ≡ 0
gone_right {s = s} {x = x} {y = y} {n = n} {m = m} {k = k} {l = l} at e = samples_gone s x y at.pixel (sides_exclude s x y n m k l 7 1 refl at ∙ or_right _ _ e)
