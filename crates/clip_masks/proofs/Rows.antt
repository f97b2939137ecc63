-- Rows of pixels of a shape.
use Rattle.std.proofs.Common.{◌≡◌, ℕ, ◌+◌, ◌-◌, ◌^◌, ◌<◌, ◌≤◌, List, get_or, inl, inr, if◌then◌else◌, ℤ, pos, ◌+ℤ◌, ◌≤ℤ◌, ◌<ℤ◌, Bool, true, false, refl, sym, ap, ap₂, ◌∙◌, arith}
use Rattle.std.proofs.lemmas.Int.{ints, clamps}
use Rattle.std.proofs.lemmas.Bool.{cases_lt}
use Rattle.wr_geom.specs.Bounds.{IsCoordinate, IsRect, holds}
use Rattle.clip_masks.specs.Outline.{Outline, samples_inside, share}
use Rattle.blend_rules.specs.Colour.{product}
use Rattle.blend_rules.proofs.Products.{product-full_right, product-zero_right}
use Rattle.clip_masks.specs.Coverage.{coverage}
use Rattle.clip_masks.specs.declared.clip.Clip.{Clip}
use Rattle.clip_masks.proofs.Bytes.{IsWritten}
use Rattle.clip_masks.specs.Corners.{HasPixel}
use Rattle.clip_masks.specs.Spans.{AreSpans, AreEnds, IsBetween}
use Rattle.clip_masks.specs.declared.side.Ends.{Ends}
use Rattle.clip_masks.specs.declared.spans.Spans.{Spans}
use Rattle.clip_masks.proofs.Points.{has_pixel, samples_beside}
use Rattle.clip_masks.proofs.Sides.{left_side, right_side, is_at, solid_pixel, gone_left, gone_right}

-- no pixel of the row is covered
pub empty_spans : (s : Outline) (y z : ℤ) (r : Spans) → IsCoordinate z → r.left ≡ z → r.from ≡ z → r.to ≡ z → r.right ≡ z → ((x : ℤ) → samples_inside s x y ≡ 0) → AreSpans s y r
empty_spans s y z r ok e f g h none = record {
  first = omega (arith, ints);
  second = omega (arith, ints);
  third = omega (arith, ints);
  start = rw e ok;
  end = rw h ok;
  before = λ x _. none x;
  solid = λ x p q. absurd (omega (arith, ints));
  after = λ x _. none x;
}

-- an edge between two in range is in range
pub between_range : (d e f : ℤ) → IsCoordinate d → IsCoordinate f → d ≤ℤ e → e ≤ℤ f → IsCoordinate e
between_range d e f a b h k = record { low = omega (arith, ints, a.low); high = omega (arith, ints, b.high) }

-- a pixel of no sample, if one of the rectangle has none
by_pixel : (s : Outline) (x y : ℤ) → (HasPixel s.rect x y → samples_inside s x y ≡ 0) → samples_inside s x y ≡ 0
by_pixel s x y f = elim (holds s.rect x y) as (λ t. holds s.rect x y ≡ t → samples_inside s x y ≡ 0) [
  | true ↦ (λ e. f (has_pixel s.rect x y e))
  | false ↦ (λ e. samples_beside s x y e)
] refl

-- the spans of a row that the shape has
pub full_spans : (s : Outline) (y : ℤ) (r : Spans) (n m : ℕ) (first last : Ends) → IsRect s.rect → y ≡ s.rect.y0 +ℤ pos n → y +ℤ pos (1 + m) ≡ s.rect.y1
    → AreEnds (left_side s n m) first → AreEnds (right_side s n m) last → IsBetween s.rect first last r → AreSpans s y r
full_spans s y r n m first last ok top bottom p q is =
    let a = p.order in
    let b = q.order in
    let wide = ok.across in
    record {
      first = omega (arith, ints, clamps);
      second = omega (arith, ints, clamps);
      third = omega (arith, ints, clamps);
      start = between_range s.rect.x0 r.left s.rect.x1 ok.in_range.left ok.in_range.right (omega (arith, ints, clamps)) (omega (arith, ints, clamps));
      end = between_range s.rect.x0 r.right s.rect.x1 ok.in_range.left ok.in_range.right (omega (arith, ints, clamps)) (omega (arith, ints, clamps));
      before = λ x less. by_pixel s x y (λ h.
          let at = is_at s x y n m h top bottom in
          gone_left at (p.gone _ (omega (arith, ints, clamps, at.left))));
      solid = λ x more less.
          let h : HasPixel s.rect x y = record { left = omega (arith, ints, clamps); right = omega (arith, ints, clamps); top = omega (arith, ints); bottom = omega (arith, ints) } in
          let at = is_at s x y n m h top bottom in
          solid_pixel at (p.clear _ (omega (arith, ints, clamps, at.left))) (q.clear _ (omega (arith, ints, clamps, at.right)));
      after = λ x more. by_pixel s x y (λ h.
          let at = is_at s x y n m h top bottom in
          gone_right at (q.gone _ (omega (arith, ints, clamps, at.right))));
    }

-- ---- indices of a row

-- the first index of a row of len pixels from x0 that is at or beyond the edge, or len
pub record IsIndexOf (edge x0 : ℤ) (len n : ℕ) : Type 0 where
  pub within : n ≤ len
  pub before : (k : ℕ) → k < n → (x0 +ℤ pos k) <ℤ edge
  pub after : (k : ℕ) → n ≤ k → k < len → edge ≤ℤ (x0 +ℤ pos k)

-- a later edge has a later index
pub index_order : (e f x0 : ℤ) (len n m : ℕ) → e ≤ℤ f → IsIndexOf e x0 len n → IsIndexOf f x0 len m → n ≤ m
index_order e f x0 len n m h p q = elim (cases_lt m n) [
  | inl less ↦ let before = p.before m less in let after = q.after m (omega arith) (omega (arith, p.within)) in absurd (omega (arith, ints))
  | inr more ↦ more
]

-- the indices of a row's spans
pub record ArePlaces (r : Spans) (x0 : ℤ) (len i j m n : ℕ) : Type 0 where
  pub left : IsIndexOf r.left x0 len i
  pub from : IsIndexOf r.from x0 len j
  pub to : IsIndexOf r.to x0 len m
  pub right : IsIndexOf r.right x0 len n

-- a pixel between two edges in range is in range
pub index_range : (e f x0 : ℤ) (len n m k : ℕ) → IsCoordinate e → IsCoordinate f → IsIndexOf e x0 len n → IsIndexOf f x0 len m → n ≤ k → k < m → IsCoordinate (x0 +ℤ pos k)
index_range e f x0 len n m k a b p q h l =
    let after = p.after k h (omega (arith, q.within)) in
    let before = q.before k l in
    record { low = omega (arith, ints, a.low); high = omega (arith, ints, b.high) }

-- ---- what a clip covers where its shape covers all or nothing

pub coverage_at : (c : Clip) (x y : ℤ) (t : Bool) (n : ℕ) → c.out ≡ t → samples_inside c.shape x y ≡ n → coverage c x y ≡ (if t then 255 - share n else share n)
unfolding coverage
coverage_at c x y t n e f = ap₂ (λ (u : Bool) (k : ℕ). if u then 255 - share k else share k) e f

-- a row after its two outer parts are multiplied
pub record IsScaled (P : ℕ → ℕ) (left from to right : ℕ) (old now : List ℕ) : Type 0 where
  before : (k : ℕ) → k < left → get_or now k 0 ≡ get_or old k 0
  first : (k : ℕ) → left ≤ k → k < from → get_or now k 0 ≡ P k
  middle : (k : ℕ) → from ≤ k → k < to → get_or now k 0 ≡ get_or old k 0
  second : (k : ℕ) → to ≤ k → k < right → get_or now k 0 ≡ P k
  after : (k : ℕ) → right ≤ k → get_or now k 0 ≡ get_or old k 0

pub scaled_twice : (cov : ℕ → ℕ) (left from to right : ℕ) (old mid now : List ℕ) → left ≤ from → from ≤ to → to ≤ right
    → IsWritten (λ k. product (get_or old k 0) (cov k)) left from old mid
    → IsWritten (λ k. product (get_or mid k 0) (cov k)) to right mid now
    → IsScaled (λ k. product (get_or old k 0) (cov k)) left from to right old now
scaled_twice cov left from to right old mid now f g h v w = record {
  before = λ k p. w.below k (omega arith) ∙ v.below k p;
  first = λ k p q. w.below k (omega arith) ∙ v.scaled k p q;
  middle = λ k p q. w.below k q ∙ v.ahead k p;
  second = λ k p q. w.scaled k p q ∙ ap (λ (n : ℕ). product n (cov k)) (v.ahead k (omega arith));
  after = λ k p. w.ahead k p ∙ v.ahead k (omega arith);
}

-- where what is whole is left, and what is empty is cleared
pub cleared_around : (P : ℕ → ℕ) (len left from to right : ℕ) (old mid past now : List ℕ) → IsScaled P left from to right old mid
    → IsWritten (λ _. 0) 0 left mid past → IsWritten (λ _. 0) right len past now
    → left ≤ from → from ≤ to → to ≤ right
    → ((k : ℕ) → k < left → P k ≡ 0) → ((k : ℕ) → from ≤ k → k < to → P k ≡ get_or old k 0) → ((k : ℕ) → right ≤ k → k < len → P k ≡ 0)
    → (k : ℕ) → k < len → get_or now k 0 ≡ P k
cleared_around P len left from to right old mid past now is v w f g h none whole rest k l = elim (cases_lt k left) [
  | inl p ↦ w.below k (omega arith) ∙ v.scaled k (omega arith) p ∙ sym (none k p)
  | inr q ↦ elim (cases_lt k from) [
    | inl p ↦ w.below k (omega arith) ∙ v.ahead k q ∙ is.first k q p
    | inr r ↦ elim (cases_lt k to) [
      | inl p ↦ w.below k (omega arith) ∙ v.ahead k q ∙ is.middle k r p ∙ sym (whole k r p)
      | inr s ↦ elim (cases_lt k right) [
        | inl p ↦ w.below k p ∙ v.ahead k q ∙ is.second k s p
        | inr t ↦ w.scaled k t l ∙ sym (rest k t l)
      ]
    ]
  ]
]

-- the other way round
pub cleared_within : (P : ℕ → ℕ) (len left from to right : ℕ) (old mid now : List ℕ) → IsScaled P left from to right old mid
    → IsWritten (λ _. 0) from to mid now
    → left ≤ from → from ≤ to → to ≤ right
    → ((k : ℕ) → k < left → P k ≡ get_or old k 0) → ((k : ℕ) → from ≤ k → k < to → P k ≡ 0) → ((k : ℕ) → right ≤ k → k < len → P k ≡ get_or old k 0)
    → (k : ℕ) → k < len → get_or now k 0 ≡ P k
cleared_within P len left from to right old mid now is w f g h none whole rest k l = elim (cases_lt k left) [
  | inl p ↦ w.below k (omega arith) ∙ is.before k p ∙ sym (none k p)
  | inr q ↦ elim (cases_lt k from) [
    | inl p ↦ w.below k p ∙ is.first k q p
    | inr r ↦ elim (cases_lt k to) [
      | inl p ↦ w.scaled k r p ∙ sym (whole k r p)
      | inr s ↦ elim (cases_lt k right) [
        | inl p ↦ w.ahead k s ∙ is.second k s p
        | inr t ↦ w.ahead k s ∙ is.after k t ∙ sym (rest k t l)
      ]
    ]
  ]
]

-- a row under a clip of mode in
pub row_inwards : (c : Clip) (y x0 : ℤ) (r : Spans) (len left from to right : ℕ) (old mid last past now : List ℕ) → c.out ≡ false → AreSpans c.shape y r → ArePlaces r x0 len left from to right
    → ((k : ℕ) → get_or old k 0 < 2 ^ 8)
    → IsWritten (λ k. product (get_or old k 0) (coverage c (x0 +ℤ pos k) y)) left from old mid
    → IsWritten (λ k. product (get_or mid k 0) (coverage c (x0 +ℤ pos k) y)) to right mid last
    → IsWritten (λ _. 0) 0 left last past → IsWritten (λ _. 0) right len past now
    → (k : ℕ) → k < len → get_or now k 0 ≡ product (get_or old k 0) (coverage c (x0 +ℤ pos k) y)
row_inwards c y x0 r len left from to right old mid last past now e is at fits v w t u =
    let f = index_order r.left r.from x0 len left from is.first at.left at.from in
    let g = index_order r.from r.to x0 len from to is.second at.from at.to in
    let h = index_order r.to r.right x0 len to right is.third at.to at.right in
    cleared_around (λ k. product (get_or old k 0) (coverage c (x0 +ℤ pos k) y)) len left from to right old last past now (scaled_twice (λ k. coverage c (x0 +ℤ pos k) y) left from to right old mid last f g h v w) t u f g h
    (λ k p. ap (product (get_or old k 0)) (coverage_at c (x0 +ℤ pos k) y false 0 e (is.before (x0 +ℤ pos k) (at.left.before k p))) ∙ product-zero_right (get_or old k 0) (fits k))
    (λ k p q. ap (product (get_or old k 0)) (coverage_at c (x0 +ℤ pos k) y false 16 e (is.solid (x0 +ℤ pos k) (at.from.after k p (omega (arith, at.to.within))) (at.to.before k q))) ∙ product-full_right (get_or old k 0))
    (λ k p q. ap (product (get_or old k 0)) (coverage_at c (x0 +ℤ pos k) y false 0 e (is.after (x0 +ℤ pos k) (at.right.after k p q))) ∙ product-zero_right (get_or old k 0) (fits k))

-- a row under a clip of mode out
pub row_outwards : (c : Clip) (y x0 : ℤ) (r : Spans) (len left from to right : ℕ) (old mid last now : List ℕ) → c.out ≡ true → AreSpans c.shape y r → ArePlaces r x0 len left from to right
    → ((k : ℕ) → get_or old k 0 < 2 ^ 8)
    → IsWritten (λ k. product (get_or old k 0) (coverage c (x0 +ℤ pos k) y)) left from old mid
    → IsWritten (λ k. product (get_or mid k 0) (coverage c (x0 +ℤ pos k) y)) to right mid last
    → IsWritten (λ _. 0) from to last now
    → (k : ℕ) → k < len → get_or now k 0 ≡ product (get_or old k 0) (coverage c (x0 +ℤ pos k) y)
row_outwards c y x0 r len left from to right old mid last now e is at fits v w t =
    let f = index_order r.left r.from x0 len left from is.first at.left at.from in
    let g = index_order r.from r.to x0 len from to is.second at.from at.to in
    let h = index_order r.to r.right x0 len to right is.third at.to at.right in
    cleared_within (λ k. product (get_or old k 0) (coverage c (x0 +ℤ pos k) y)) len left from to right old last now (scaled_twice (λ k. coverage c (x0 +ℤ pos k) y) left from to right old mid last f g h v w) t f g h
    (λ k p. ap (product (get_or old k 0)) (coverage_at c (x0 +ℤ pos k) y true 0 e (is.before (x0 +ℤ pos k) (at.left.before k p))) ∙ product-full_right (get_or old k 0))
    (λ k p q. ap (product (get_or old k 0)) (coverage_at c (x0 +ℤ pos k) y true 16 e (is.solid (x0 +ℤ pos k) (at.from.after k p (omega (arith, at.to.within))) (at.to.before k q))) ∙ product-zero_right (get_or old k 0) (fits k))
    (λ k p q. ap (product (get_or old k 0)) (coverage_at c (x0 +ℤ pos k) y true 0 e (is.after (x0 +ℤ pos k) (at.right.after k p q))) ∙ product-full_right (get_or old k 0))
