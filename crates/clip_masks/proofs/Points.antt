-- Sample points against the corners of a shape.
use Rattle.std.proofs.Common.{◌≡◌, ℕ, ◌+◌, ◌*◌, ◌≤◌, ◌<◌, ℤ, pos, ◌+ℤ◌, ◌-ℤ◌, ◌≤ℤ◌, ◌<ℤ◌, Bool, true, false, not, ◌&&◌, ◌||◌, int_lt, int_le, unsigned_abs, IsTrue, ◌↔◌, refl, sym, ap, ap₂, ◌∙◌, true≢false, arith, if◌then◌else◌, lit≤}
use Rattle.std.specs.List.{count_by}
use Rattle.std.proofs.Math.Nat.{mul-le-mul, mul-le-mul_right}
use Rattle.std.proofs.lemmas.Int.{ints}
use Rattle.std.proofs.lemmas.Bool.{and_parts, and_left, or_left, or_right, lt-ltb, ltb-true}
use Rattle.wr_geom.specs.Bounds.{Bounds, holds}
use Rattle.wr_geom.proofs.Points.{inside, holds_it, misses_it}
use Rattle.clip_masks.specs.Outline.{Outline, squared, is_beyond, eighths, enlarged, excludes, is_excluded, is_inside, sample_coordinates, sample_points, samples_inside}
use Rattle.clip_masks.specs.Corners.{HasPixel, LiesWithin, IsOutward, excludes_tip}
use Rattle.clip_masks.specs.declared.corner.Outward.{Outward}

lt_is : (a b : ℤ) → int_lt a b ≡ true → a <ℤ b
lt_is a b h = grind (arith, ints)

is_lt : (a b : ℤ) → a <ℤ b → int_lt a b ≡ true
is_lt a b h = grind (arith, ints)

pub le_iff : (a b : ℤ) → IsTrue (int_le a b) ↔ (a ≤ℤ b)
le_iff a b = (λ h. grind (arith, ints), λ h. grind (arith, ints))

pub gt_is : (a b : ℤ) → int_le a b ≡ false → b <ℤ a
gt_is a b h = grind (arith, ints)

pub ge_is : (a b : ℤ) → int_lt a b ≡ false → b ≤ℤ a
ge_is a b h = grind (arith, ints)

-- beyond the centre on both axes the ellipse decides
pub excludes_far : (r : ℕ × ℕ) (dx dy : ℤ) (t : Bool) (n m : ℕ) → pos 0 <ℤ dx → pos 0 <ℤ dy → n ≡ unsigned_abs dx → m ≡ unsigned_abs dy → t ≡ is_beyond (8 * r.0) (8 * r.1) n m → t ≡ excludes r dx dy
unfolding excludes
excludes_far r dx dy t n m h k e f is =
    is ∙ ap₂ (λ (i j : ℕ). is_beyond (8 * r.0) (8 * r.1) i j) e f
    ∙ sym (ap₂ (λ (i j : Bool). i && j && is_beyond (8 * r.0) (8 * r.1) (unsigned_abs dx) (unsigned_abs dy)) (is_lt (pos 0) dx h) (is_lt (pos 0) dy k))

-- what a point excludes from an ellipse excludes each point farther out
beyond_more : (rx ry dx dy i j : ℕ) → dx ≤ i → dy ≤ j → is_beyond rx ry dx dy ≡ true → is_beyond rx ry i j ≡ true
unfolding is_beyond
beyond_more rx ry dx dy i j h k e =
    let x : dx * dx ≤ i * i = mul-le-mul h h in
    let y : dy * dy ≤ j * j = mul-le-mul k k in
    let first : squared dx * squared ry ≤ squared i * squared ry = mul-le-mul_right (squared ry) x in
    let second : squared dy * squared rx ≤ squared j * squared rx = mul-le-mul_right (squared rx) y in
    let was : squared rx * squared ry < squared dx * squared ry + squared dy * squared rx = ltb-true _ _ e in
    lt-ltb _ _ (omega arith)

-- the three tests of a corner
record IsExcluded (r : ℕ × ℕ) (dx dy : ℤ) : Type 0 where
  across : pos 0 <ℤ dx
  down : pos 0 <ℤ dy
  far : is_beyond (8 * r.0) (8 * r.1) (unsigned_abs dx) (unsigned_abs dy) ≡ true

excluded : (r : ℕ × ℕ) (dx dy : ℤ) → excludes r dx dy ≡ true → IsExcluded r dx dy
unfolding excludes
excluded r dx dy h =
    let k = and_parts (int_lt (pos 0) dx && int_lt (pos 0) dy) (is_beyond (8 * r.0) (8 * r.1) (unsigned_abs dx) (unsigned_abs dy)) h in
    let j = and_parts (int_lt (pos 0) dx) (int_lt (pos 0) dy) k.0 in
    record { across = lt_is (pos 0) dx j.0; down = lt_is (pos 0) dy j.1; far = k.1 }

-- a corner that excludes a point excludes each point farther out
pub excludes_more : (r : ℕ × ℕ) (dx dy i j : ℤ) → dx ≤ℤ i → dy ≤ℤ j → excludes r dx dy ≡ true → excludes r i j ≡ true
excludes_more r dx dy i j h k e =
    let x = excluded r dx dy e in
    let across : pos 0 <ℤ i = omega (arith, ints, x.across) in
    let down : pos 0 <ℤ j = omega (arith, ints, x.down) in
    let wide : unsigned_abs dx ≤ unsigned_abs i = omega (arith, ints, x.across) in
    let high : unsigned_abs dy ≤ unsigned_abs j = omega (arith, ints, x.down) in
    sym (excludes_far r i j true (unsigned_abs i) (unsigned_abs j) across down refl refl (sym (beyond_more (8 * r.0) (8 * r.1) (unsigned_abs dx) (unsigned_abs dy) (unsigned_abs i) (unsigned_abs j) wide high x.far)))

-- a corner excludes nothing that does not lie beyond its centre
pub excludes_beside : (r : ℕ × ℕ) (dx dy : ℤ) → dx ≤ℤ pos 0 → excludes r dx dy ≡ false
excludes_beside r dx dy h = elim (excludes r dx dy) as (λ t. excludes r dx dy ≡ t → t ≡ false) [ true ↦ (λ e. let x = (excluded r dx dy e).across in absurd (omega (arith, ints))) | false ↦ (λ _. refl) ] refl

pub excludes_level : (r : ℕ × ℕ) (dx dy : ℤ) → dy ≤ℤ pos 0 → excludes r dx dy ≡ false
excludes_level r dx dy h = elim (excludes r dx dy) as (λ t. excludes r dx dy ≡ t → t ≡ false) [ true ↦ (λ e. let x = (excluded r dx dy e).down in absurd (omega (arith, ints))) | false ↦ (λ _. refl) ] refl

-- ---- boxes of points

from_left : (x0 a l : ℤ) (n : ℕ) → l ≡ eighths x0 -ℤ a → l +ℤ pos (8 * n) ≡ eighths (x0 +ℤ pos n) -ℤ a
from_left x0 a l n h = omega (arith, ints)

from_right : (x1 a l : ℤ) (n : ℕ) → l ≡ a -ℤ eighths x1 → l +ℤ pos (8 * n) ≡ a -ℤ eighths (x1 -ℤ pos n)
from_right x1 a l n h = omega (arith, ints)

-- the tests of a box, one a corner, by how far it lies outward
pub tips_are : (s : Outline) (a b c d : ℤ) (o : Outward) (p q r t : Bool) → IsOutward s.rect a b c d o
    → p ≡ excludes s.radii.tl (o.left +ℤ pos (8 * s.radii.tl.0)) (o.top +ℤ pos (8 * s.radii.tl.1))
    → q ≡ excludes s.radii.tr (o.right +ℤ pos (8 * s.radii.tr.0)) (o.top +ℤ pos (8 * s.radii.tr.1))
    → r ≡ excludes s.radii.br (o.right +ℤ pos (8 * s.radii.br.0)) (o.bottom +ℤ pos (8 * s.radii.br.1))
    → t ≡ excludes s.radii.bl (o.left +ℤ pos (8 * s.radii.bl.0)) (o.bottom +ℤ pos (8 * s.radii.bl.1))
    → (p || q || r || t) ≡ excludes_tip s a b c d
tips_are s a b c d o p q r t is e f g h =
    rw (
      e,
      f,
      g,
      h,
      from_left s.rect.x0 a o.left s.radii.tl.0 is.left,
      from_left s.rect.y0 b o.top s.radii.tl.1 is.top,
      from_right s.rect.x1 c o.right s.radii.tr.0 is.right,
      from_left s.rect.y0 b o.top s.radii.tr.1 is.top,
      from_right s.rect.x1 c o.right s.radii.br.0 is.right,
      from_right s.rect.y1 d o.bottom s.radii.br.1 is.bottom,
      from_left s.rect.x0 a o.left s.radii.bl.0 is.left,
      from_right s.rect.y1 d o.bottom s.radii.bl.1 is.bottom,
    )

-- a corner's answer, in the shape's own numbers
pub answer_at : (r n : ℕ × ℕ) (x y i j : ℤ) (t u : Bool) → t ≡ excludes r (x +ℤ pos (8 * r.0)) (y +ℤ pos (8 * r.1)) → t ≡ u → r ≡ n → x ≡ i → y ≡ j → u ≡ excludes n (i +ℤ pos (8 * n.0)) (j +ℤ pos (8 * n.1))
answer_at r n x y i j t u e k f g h =
    sym k ∙ e ∙ ap (λ (m : ℕ × ℕ). excludes m (x +ℤ pos (8 * m.0)) (y +ℤ pos (8 * m.1))) f
    ∙ ap₂ (λ (v w : ℤ). excludes n (v +ℤ pos (8 * n.0)) (w +ℤ pos (8 * n.1))) g h

-- ---- a pixel's samples

pub has_pixel : (r : Bounds) (x y : ℤ) → holds r x y ≡ true → HasPixel r x y
has_pixel r x y e = let h = inside r x y e in record { left = h.left; right = h.right; top = h.top; bottom = h.bottom }

-- a point within a pixel of the rectangle lies in the rectangle
pub pixel_lies : (r : Bounds) (x y : ℤ) (i j : ℕ) → HasPixel r x y → i < 8 → j < 8 → LiesWithin r (eighths x +ℤ pos i) (eighths y +ℤ pos j)
pixel_lies r x y i j h p q = record { left = omega (arith, ints, h.left); right = omega (arith, ints, h.right); top = omega (arith, ints, h.top); bottom = omega (arith, ints, h.bottom) }

lies_holds : (r : Bounds) (a b : ℤ) → LiesWithin r a b → holds (enlarged r) a b ≡ true
lies_holds r a b h = holds_it (enlarged r) a b (record { left = h.left; right = h.right; top = h.top; bottom = h.bottom })

-- a point of the rectangle is inside where no corner excludes it
pub inside_is : (s : Outline) (a b : ℤ) → LiesWithin s.rect a b → not (excludes_tip s a b a b) ≡ is_inside s a b
unfolding is_inside
inside_is s a b h = sym (ap (λ (t : Bool). t && not (is_excluded s a b)) (lies_holds s.rect a b h))

pub or_either : (p q p' q' : Bool) → (p ≡ true → p' ≡ true) → (q ≡ true → q' ≡ true) → (p || q) ≡ true → (p' || q') ≡ true
or_either true q p' q' f g e = or_left p' q' (f refl)
or_either false q p' q' f g e = or_right p' q' (g e)

-- a box is excluded where a box within it is
tip_more : (s : Outline) (a b c d i j k l : ℤ) → i ≤ℤ a → j ≤ℤ b → c ≤ℤ k → d ≤ℤ l → excludes_tip s a b c d ≡ true → excludes_tip s i j k l ≡ true
tip_more s a b c d i j k l f g h m e =
    let r = s.radii in
    or_more (excludes_more r.tl _ _ _ _ (less_left (s.rect.x0 +ℤ pos r.tl.0) a i f) (less_left (s.rect.y0 +ℤ pos r.tl.1) b j g))
    (excludes_more r.tr _ _ _ _ (less_right (s.rect.x1 -ℤ pos r.tr.0) c k h) (less_left (s.rect.y0 +ℤ pos r.tr.1) b j g))
    (excludes_more r.br _ _ _ _ (less_right (s.rect.x1 -ℤ pos r.br.0) c k h) (less_right (s.rect.y1 -ℤ pos r.br.1) d l m))
    (excludes_more r.bl _ _ _ _ (less_left (s.rect.x0 +ℤ pos r.bl.0) a i f) (less_right (s.rect.y1 -ℤ pos r.bl.1) d l m)) e
  where
    less_left : (z p q : ℤ) → q ≤ℤ p → (eighths z -ℤ p) ≤ℤ (eighths z -ℤ q)
    less_left z p q h = omega (arith, ints)

    less_right : (z p q : ℤ) → p ≤ℤ q → (p -ℤ eighths z) ≤ℤ (q -ℤ eighths z)
    less_right z p q h = omega (arith, ints)

    or_more : {p q u v p' q' u' v' : Bool} → (p ≡ true → p' ≡ true) → (q ≡ true → q' ≡ true) → (u ≡ true → u' ≡ true) → (v ≡ true → v' ≡ true) → (p || q || u || v) ≡ true → (p' || q' || u' || v') ≡ true
    or_more {p = p} {q = q} {u = u} {v = v} {p' = p'} {q' = q'} {u' = u'} {v' = v'} f g h m e =
        or_either (p || q || u) v (p' || q' || u') v' (or_either (p || q) u (p' || q') u' (or_either p q p' q' f g) h) m e

-- where no corner excludes a pixel's farthest samples, all its samples are inside
whole_sample : (s : Outline) (x y : ℤ) (i j : ℕ) → HasPixel s.rect x y → 1 ≤ i → i ≤ 7 → 1 ≤ j → j ≤ 7
    → excludes_tip s (eighths x +ℤ pos 1) (eighths y +ℤ pos 1) (eighths x +ℤ pos 7) (eighths y +ℤ pos 7) ≡ false
    → is_inside s (eighths x +ℤ pos i) (eighths y +ℤ pos j) ≡ true
whole_sample s x y i j h p q u v e =
    let a = eighths x +ℤ pos i in
    let b = eighths y +ℤ pos j in
    sym (inside_is s a b (pixel_lies s.rect x y i j h (omega arith) (omega arith)))
    ∙ elim (excludes_tip s a b a b) as (λ t. excludes_tip s a b a b ≡ t → not t ≡ true) [
      | true ↦ (λ k. absurd (true≢false (sym (tip_more s a b a b (eighths x +ℤ pos 1) (eighths y +ℤ pos 1) (eighths x +ℤ pos 7) (eighths y +ℤ pos 7) (omega (arith, ints)) (omega (arith, ints)) (omega (arith, ints)) (omega (arith, ints)) k) ∙ e)))
      | false ↦ (λ _. refl)
    ] refl

-- where a corner excludes a pixel's nearest sample, no sample is inside
gone_sample : (s : Outline) (x y : ℤ) (i j : ℕ) → HasPixel s.rect x y → 1 ≤ i → i ≤ 7 → 1 ≤ j → j ≤ 7
    → excludes_tip s (eighths x +ℤ pos 7) (eighths y +ℤ pos 7) (eighths x +ℤ pos 1) (eighths y +ℤ pos 1) ≡ true
    → is_inside s (eighths x +ℤ pos i) (eighths y +ℤ pos j) ≡ false
gone_sample s x y i j h p q u v e =
    let a = eighths x +ℤ pos i in
    let b = eighths y +ℤ pos j in
    sym (inside_is s a b (pixel_lies s.rect x y i j h (omega arith) (omega arith)))
    ∙ ap not (tip_more s (eighths x +ℤ pos 7) (eighths y +ℤ pos 7) (eighths x +ℤ pos 1) (eighths y +ℤ pos 1) a b a b (omega (arith, ints)) (omega (arith, ints)) (omega (arith, ints)) (omega (arith, ints)) e)

-- where each sample has one answer, so has the count
pub samples_all : (s : Outline) (x y : ℤ) (t : Bool) → ((i j : ℕ) → 1 ≤ i → i ≤ 7 → 1 ≤ j → j ≤ 7 → is_inside s (eighths x +ℤ pos i) (eighths y +ℤ pos j) ≡ t) → samples_inside s x y ≡ (if t then 16 else 0)
unfolding samples_inside
samples_all s x y t f =
    rw (
      f 1 1 (lit≤ tt) (lit≤ tt) (lit≤ tt) (lit≤ tt),
      f 3 1 (lit≤ tt) (lit≤ tt) (lit≤ tt) (lit≤ tt),
      f 5 1 (lit≤ tt) (lit≤ tt) (lit≤ tt) (lit≤ tt),
      f 7 1 (lit≤ tt) (lit≤ tt) (lit≤ tt) (lit≤ tt),
      f 1 3 (lit≤ tt) (lit≤ tt) (lit≤ tt) (lit≤ tt),
      f 3 3 (lit≤ tt) (lit≤ tt) (lit≤ tt) (lit≤ tt),
      f 5 3 (lit≤ tt) (lit≤ tt) (lit≤ tt) (lit≤ tt),
      f 7 3 (lit≤ tt) (lit≤ tt) (lit≤ tt) (lit≤ tt),
      f 1 5 (lit≤ tt) (lit≤ tt) (lit≤ tt) (lit≤ tt),
      f 3 5 (lit≤ tt) (lit≤ tt) (lit≤ tt) (lit≤ tt),
      f 5 5 (lit≤ tt) (lit≤ tt) (lit≤ tt) (lit≤ tt),
      f 7 5 (lit≤ tt) (lit≤ tt) (lit≤ tt) (lit≤ tt),
      f 1 7 (lit≤ tt) (lit≤ tt) (lit≤ tt) (lit≤ tt),
      f 3 7 (lit≤ tt) (lit≤ tt) (lit≤ tt) (lit≤ tt),
      f 5 7 (lit≤ tt) (lit≤ tt) (lit≤ tt) (lit≤ tt),
      f 7 7 (lit≤ tt) (lit≤ tt) (lit≤ tt) (lit≤ tt),
    )
    (elim t as (λ (u : Bool). count_by (λ (p : ℤ × ℤ). u) (sample_points x y) ≡ (if u then 16 else 0)) [ true ↦ refl | false ↦ refl ])

pub samples_whole : (s : Outline) (x y : ℤ) → HasPixel s.rect x y → excludes_tip s (eighths x +ℤ pos 1) (eighths y +ℤ pos 1) (eighths x +ℤ pos 7) (eighths y +ℤ pos 7) ≡ false → samples_inside s x y ≡ 16
samples_whole s x y h e = samples_all s x y true (λ i j p q u v. whole_sample s x y i j h p q u v e)

pub samples_gone : (s : Outline) (x y : ℤ) → HasPixel s.rect x y → excludes_tip s (eighths x +ℤ pos 7) (eighths y +ℤ pos 7) (eighths x +ℤ pos 1) (eighths y +ℤ pos 1) ≡ true → samples_inside s x y ≡ 0
samples_gone s x y h e = samples_all s x y false (λ i j p q u v. gone_sample s x y i j h p q u v e)

-- the count, a row of four at a time
pub samples_by_rows : (s : Outline) (x y : ℤ) (k l m n : ℕ)
    → k ≡ count_by (λ (a : ℤ). is_inside s a (eighths y +ℤ pos 1)) (sample_coordinates x)
    → l ≡ count_by (λ (a : ℤ). is_inside s a (eighths y +ℤ pos 3)) (sample_coordinates x)
    → m ≡ count_by (λ (a : ℤ). is_inside s a (eighths y +ℤ pos 5)) (sample_coordinates x)
    → n ≡ count_by (λ (a : ℤ). is_inside s a (eighths y +ℤ pos 7)) (sample_coordinates x)
    → k + l + m + n ≡ samples_inside s x y
unfolding samples_inside
samples_by_rows s x y k l m n e f g h = omega (arith, e, f, g, h)

beside_sample : (s : Outline) (x y : ℤ) (i j : ℕ) → holds s.rect x y ≡ false → 1 ≤ i → i ≤ 7 → 1 ≤ j → j ≤ 7 → is_inside s (eighths x +ℤ pos i) (eighths y +ℤ pos j) ≡ false
unfolding is_inside
beside_sample s x y i j e p q u v =
    let a = eighths x +ℤ pos i in
    let b = eighths y +ℤ pos j in
    and_left (holds (enlarged s.rect) a b) (not (is_excluded s a b))
    (misses_it (enlarged s.rect) a b (λ h. true≢false (sym (holds_it s.rect x y (record { left = omega (arith, ints, h.left); right = omega (arith, ints, h.right); top = omega (arith, ints, h.top); bottom = omega (arith, ints, h.bottom) })) ∙ e)))

-- a pixel beside the rectangle has no sample in it
pub samples_beside : (s : Outline) (x y : ℤ) → holds s.rect x y ≡ false → samples_inside s x y ≡ 0
samples_beside s x y e = samples_all s x y false (λ i j p q u v. beside_sample s x y i j e p q u v)

abbrev counted : Bool → ℕ
counted t = if t then 1 else 0

-- one sample's count, by what its box of one point gives
pub kept_is : (s : Outline) (x y : ℤ) (i j : ℕ) (a b : ℤ) (t : Bool) → HasPixel s.rect x y → i < 8 → j < 8 → a ≡ eighths x +ℤ pos i → b ≡ eighths y +ℤ pos j → t ≡ not (excludes_tip s a b a b)
    → counted t ≡ counted (is_inside s (eighths x +ℤ pos i) (eighths y +ℤ pos j))
kept_is s x y i j a b t h p q e f g =
    let m = eighths x +ℤ pos i in
    let n = eighths y +ℤ pos j in
    ap counted (g ∙ ap₂ (λ (v w : ℤ). not (excludes_tip s v w v w)) e f ∙ inside_is s m n (pixel_lies s.rect x y i j h p q))
