-- Tests of sameness and orders tell different rectangles and radii apart.
use Rattle.std.proofs.Common.{◌<◌, sym, ◌≡◌, ℕ, ℤ, true, ◌&&◌, eqb, refl, ap, ap₂, subst, int_eq, int_cmp}
use Rattle.std.proofs.lemmas.Bool.{and_parts, and_from, eqb-true, eq-eqb}
use Rattle.std.proofs.lemmas.Bool.Decides.{Decides-int_eq}
use Rattle.std.proofs.lemmas.Cmp.{ranked}
use Rattle.std.specs.Cmp.{Equal-is, nat_cmp_is}
use Rattle.std.specs.Ordering.{MatchOrdering, is_eq, nat_cmp, ordering_then}
use Rattle.std.specs.declared.cmp.Ordering.{Ordering}
use Rattle.std.specs.declared.cmp.Ordering.TheVariants.{Less, Equal, Greater}
use Rattle.wr_geom.specs.Bounds.{Bounds, same_rect}
use Rattle.wr_geom.specs.Sides.{same_corner, same_radii}
use Rattle.wr_geom.specs.declared.sides.Radii.{Radii}
use Rattle.wr_geom.proofs.Points.{same_bounds}

-- ---- rectangles

pub same_rect-true : (a b : Bounds) → same_rect a b ≡ true → a ≡ b
unfolding same_rect
same_rect-true a b h =
    let i = and_parts (int_eq a.x0 b.x0) (int_eq a.y0 b.y0 && (int_eq a.x1 b.x1 && int_eq a.y1 b.y1)) h in
    let j = and_parts (int_eq a.y0 b.y0) (int_eq a.x1 b.x1 && int_eq a.y1 b.y1) i.1 in
    let k = and_parts (int_eq a.x1 b.x1) (int_eq a.y1 b.y1) j.1 in
    same_bounds a b ((Decides-int_eq a.x0 b.x0).0 i.0) ((Decides-int_eq a.y0 b.y0).0 j.0) ((Decides-int_eq a.x1 b.x1).0 k.0) ((Decides-int_eq a.y1 b.y1).0 k.1)

pub same_rect-self : (a : Bounds) → same_rect a a ≡ true
unfolding same_rect
same_rect-self a = and_from _ _ (self a.x0) (and_from _ _ (self a.y0) (and_from _ _ (self a.x1) (self a.y1)))
  where
    self : (z : ℤ) → int_eq z z ≡ true
    self z = (Decides-int_eq z z).1 refl

pub same_rect-of : (a b : Bounds) → a ≡ b → same_rect a b ≡ true
same_rect-of a b e = subst (λ (r : Bounds). same_rect a r ≡ true) e (same_rect-self a)

-- ---- orders

-- two answers in turn are Equal where both are
pub both_tie : (r s : Ordering) → ordering_then r s ≡ Equal → (r ≡ Equal) × (s ≡ Equal)
both_tie Less s h = absurd (cc)
both_tie Equal s h = (refl, h)
both_tie Greater s h = absurd (cc)

pub tie_both : (r s : Ordering) → r ≡ Equal → s ≡ Equal → ordering_then r s ≡ Equal
tie_both Less s h k = absurd (cc)
tie_both Equal s h k = k
tie_both Greater s h k = absurd (cc)

int_tie : (x y : ℤ) → int_cmp x y ≡ Equal → x ≡ y
int_tie x y h = (Decides-int_eq x y).0 (ap is_eq h)

int_self : (x : ℤ) → int_cmp x x ≡ Equal
int_self x = (Equal-is (int_cmp x x)).0 ((Decides-int_eq x x).1 refl)

-- how the order of rectangles compares them: edge by edge
abbrev pub rect_cmp : Bounds → Bounds → Ordering
rect_cmp a b = ordering_then (int_cmp a.x0 b.x0) (ordering_then (int_cmp a.y0 b.y0) (ordering_then (int_cmp a.x1 b.x1) (int_cmp a.y1 b.y1)))

pub rect_tie : (a b : Bounds) → rect_cmp a b ≡ Equal → a ≡ b
rect_tie a b h =
    let i = both_tie (int_cmp a.x0 b.x0) (ordering_then (int_cmp a.y0 b.y0) (ordering_then (int_cmp a.x1 b.x1) (int_cmp a.y1 b.y1))) h in
    let j = both_tie (int_cmp a.y0 b.y0) (ordering_then (int_cmp a.x1 b.x1) (int_cmp a.y1 b.y1)) i.1 in
    let k = both_tie (int_cmp a.x1 b.x1) (int_cmp a.y1 b.y1) j.1 in
    same_bounds a b (int_tie a.x0 b.x0 i.0) (int_tie a.y0 b.y0 j.0) (int_tie a.x1 b.x1 k.0) (int_tie a.y1 b.y1 k.1)

pub rect_self : (a : Bounds) → rect_cmp a a ≡ Equal
rect_self a = tie_both _ _ (int_self a.x0) (tie_both _ _ (int_self a.y0) (tie_both _ _ (int_self a.x1) (int_self a.y1)))

-- ---- radii

corner_is : (a b : ℕ × ℕ) → same_corner a b ≡ true → a ≡ b
corner_is a b h = let k = and_parts (eqb a.0 b.0) (eqb a.1 b.1) h in ap₂ (λ (m n : ℕ). (m, n)) (eqb-true a.0 b.0 k.0) (eqb-true a.1 b.1 k.1)

corner_self : (a : ℕ × ℕ) → same_corner a a ≡ true
corner_self a = and_from _ _ (eq-eqb a.0 a.0 refl) (eq-eqb a.1 a.1 refl)

pub four_corners : (a b : Radii) → a.tl ≡ b.tl → a.tr ≡ b.tr → a.br ≡ b.br → a.bl ≡ b.bl → a ≡ b
four_corners a b e f g h = λ i. record { tl = e i; tr = f i; br = g i; bl = h i }

pub same_radii-true : (a b : Radii) → same_radii a b ≡ true → a ≡ b
unfolding same_radii
same_radii-true a b h =
    let i = and_parts (same_corner a.tl b.tl) (same_corner a.tr b.tr && (same_corner a.br b.br && same_corner a.bl b.bl)) h in
    let j = and_parts (same_corner a.tr b.tr) (same_corner a.br b.br && same_corner a.bl b.bl) i.1 in
    let k = and_parts (same_corner a.br b.br) (same_corner a.bl b.bl) j.1 in
    four_corners a b (corner_is a.tl b.tl i.0) (corner_is a.tr b.tr j.0) (corner_is a.br b.br k.0) (corner_is a.bl b.bl k.1)

pub same_radii-self : (a : Radii) → same_radii a a ≡ true
unfolding same_radii
same_radii-self a = and_from _ _ (corner_self a.tl) (and_from _ _ (corner_self a.tr) (and_from _ _ (corner_self a.br) (corner_self a.bl)))

pub same_radii-of : (a b : Radii) → a ≡ b → same_radii a b ≡ true
same_radii-of a b e = subst (λ (r : Radii). same_radii a r ≡ true) e (same_radii-self a)

nat_tie : (x y : ℕ) → nat_cmp x y ≡ Equal → x ≡ y
nat_tie x y h = subst (λ (r : Ordering). MatchOrdering r (x < y) (x ≡ y) (y < x)) h (ranked x y (nat_cmp x y) refl)

nat_self : (x : ℕ) → nat_cmp x x ≡ Equal
nat_self x = sym (nat_cmp_is x x Equal refl)

abbrev pub corner_cmp : ℕ × ℕ → ℕ × ℕ → Ordering
corner_cmp a b = ordering_then (nat_cmp a.0 b.0) (nat_cmp a.1 b.1)

corner_tie : (a b : ℕ × ℕ) → corner_cmp a b ≡ Equal → a ≡ b
corner_tie a b h = let k = both_tie (nat_cmp a.0 b.0) (nat_cmp a.1 b.1) h in ap₂ (λ (m n : ℕ). (m, n)) (nat_tie a.0 b.0 k.0) (nat_tie a.1 b.1 k.1)

corner_even : (a : ℕ × ℕ) → corner_cmp a a ≡ Equal
corner_even a = tie_both _ _ (nat_self a.0) (nat_self a.1)

-- how the order of radii compares them: corner by corner
abbrev pub radii_cmp : Radii → Radii → Ordering
radii_cmp a b = ordering_then (corner_cmp a.tl b.tl) (ordering_then (corner_cmp a.tr b.tr) (ordering_then (corner_cmp a.br b.br) (corner_cmp a.bl b.bl)))

pub radii_tie : (a b : Radii) → radii_cmp a b ≡ Equal → a ≡ b
radii_tie a b h =
    let i = both_tie (corner_cmp a.tl b.tl) (ordering_then (corner_cmp a.tr b.tr) (ordering_then (corner_cmp a.br b.br) (corner_cmp a.bl b.bl))) h in
    let j = both_tie (corner_cmp a.tr b.tr) (ordering_then (corner_cmp a.br b.br) (corner_cmp a.bl b.bl)) i.1 in
    let k = both_tie (corner_cmp a.br b.br) (corner_cmp a.bl b.bl) j.1 in
    four_corners a b (corner_tie a.tl b.tl i.0) (corner_tie a.tr b.tr j.0) (corner_tie a.br b.br k.0) (corner_tie a.bl b.bl k.1)

pub radii_self : (a : Radii) → radii_cmp a a ≡ Equal
radii_self a = tie_both _ _ (corner_even a.tl) (tie_both _ _ (corner_even a.tr) (tie_both _ _ (corner_even a.br) (corner_even a.bl)))
