-- Rectangles and their points.
use Rattle.std.proofs.Common.{◌≡◌, ℤ, pos, ◌≤ℤ◌, ◌<ℤ◌, ◌+ℤ◌, ◌-ℤ◌, ◌<◌, Bool, true, false, not, ◌&&◌, ◌↔◌, unsigned_abs, int_le, int_lt, if◌then◌else◌, IsTrue, IsFalse, refl, sym, ap, ◌∙◌, true≢false, mul-pos, arith}
use Rattle.std.specs.Int.{int_max, int_min}
use Rattle.std.proofs.lemmas.Int.{ints, clamps, by_lt_z}
use Rattle.std.proofs.lemmas.Bool.{and_parts, and_from, not-true}
use Rattle.wr_geom.specs.declared.point.Point.{Point}
use Rattle.wr_geom.specs.Bounds.{Bounds, IsCoordinate, IsRect, HasNoPoint, Covers, holds, has_points, nowhere, overlap, intersection, hull, bounding, shifted, area_of}

-- the point (x, y) lies in the rectangle
pub record IsInside (b : Bounds) (x y : ℤ) : Type 0 where
  pub left : b.x0 ≤ℤ x
  pub right : x <ℤ b.x1
  pub top : b.y0 ≤ℤ y
  pub bottom : y <ℤ b.y1

-- both sides are longer than 0
pub record HasSides (b : Bounds) : Type 0 where
  pub across : b.x0 <ℤ b.x1
  pub down : b.y0 <ℤ b.y1

le_is : (a b : ℤ) → int_le a b ≡ true → a ≤ℤ b
le_is a b h = grind (arith, ints)

lt_is : (a b : ℤ) → int_lt a b ≡ true → a <ℤ b
lt_is a b h = grind (arith, ints)

is_le : (a b : ℤ) → a ≤ℤ b → int_le a b ≡ true
is_le a b h = grind (arith, ints)

is_lt : (a b : ℤ) → a <ℤ b → int_lt a b ≡ true
is_lt a b h = grind (arith, ints)

pub inside : (b : Bounds) (x y : ℤ) → holds b x y ≡ true → IsInside b x y
unfolding holds
inside b x y h =
    let k = and_parts (int_le b.x0 x && int_lt x b.x1 && int_le b.y0 y) (int_lt y b.y1) h in
    let j = and_parts (int_le b.x0 x && int_lt x b.x1) (int_le b.y0 y) k.0 in
    let i = and_parts (int_le b.x0 x) (int_lt x b.x1) j.0 in
    record { left = le_is b.x0 x i.0; right = lt_is x b.x1 i.1; top = le_is b.y0 y j.1; bottom = lt_is y b.y1 k.1 }

pub holds_it : (b : Bounds) (x y : ℤ) → IsInside b x y → holds b x y ≡ true
unfolding holds
holds_it b x y h =
    and_from (int_le b.x0 x && int_lt x b.x1 && int_le b.y0 y) (int_lt y b.y1)
    (and_from (int_le b.x0 x && int_lt x b.x1) (int_le b.y0 y)
    (and_from (int_le b.x0 x) (int_lt x b.x1) (is_le b.x0 x h.left) (is_lt x b.x1 h.right)) (is_le b.y0 y h.top)) (is_lt y b.y1 h.bottom)

pub misses_it : (b : Bounds) (x y : ℤ) → (IsInside b x y → ⊥) → holds b x y ≡ false
misses_it b x y f = elim (holds b x y) as (λ t. holds b x y ≡ t → t ≡ false) [ true ↦ (λ e. absurd (f (inside b x y e))) | false ↦ (λ _. refl) ] refl

pub same_bounds : (a b : Bounds) → a.x0 ≡ b.x0 → a.y0 ≡ b.y0 → a.x1 ≡ b.x1 → a.y1 ≡ b.y1 → a ≡ b
same_bounds a b h i j k =
    ap (λ (t : ℤ). let r : Bounds = record { x0 = t; y0 = a.y0; x1 = a.x1; y1 = a.y1 } in r) h
    ∙ ap (λ (t : ℤ). let r : Bounds = record { x0 = b.x0; y0 = t; x1 = a.x1; y1 = a.y1 } in r) i
    ∙ ap (λ (t : ℤ). let r : Bounds = record { x0 = b.x0; y0 = b.y0; x1 = t; y1 = a.y1 } in r) j
    ∙ ap (λ (t : ℤ). let r : Bounds = record { x0 = b.x0; y0 = b.y0; x1 = b.x1; y1 = t } in r) k

same_tests : (s t : Bool) → (s ≡ true → t ≡ true) → (t ≡ true → s ≡ true) → s ≡ t
same_tests true t f g = sym (f refl)
same_tests false true f g = g refl
same_tests false false f g = refl

max_in : {p q : ℤ} → IsCoordinate p → IsCoordinate q → IsCoordinate (int_max p q)
max_in {p = p} {q = q} f g = record { low = omega (arith, ints, clamps, f.low, g.low); high = omega (arith, ints, clamps, f.high, g.high) }

min_in : {p q : ℤ} → IsCoordinate p → IsCoordinate q → IsCoordinate (int_min p q)
min_in {p = p} {q = q} f g = record { low = omega (arith, ints, clamps, f.low, g.low); high = omega (arith, ints, clamps, f.high, g.high) }

-- ---- rectangles with and without points

pub has_sides : (b : Bounds) → has_points b ≡ true → HasSides b
unfolding has_points
has_sides b h =
    let k = and_parts (int_lt b.x0 b.x1) (int_lt b.y0 b.y1) h in
    record { across = lt_is b.x0 b.x1 k.0; down = lt_is b.y0 b.y1 k.1 }

pub sides_has : (b : Bounds) → HasSides b → has_points b ≡ true
unfolding has_points
sides_has b h = and_from (int_lt b.x0 b.x1) (int_lt b.y0 b.y1) (is_lt b.x0 b.x1 h.across) (is_lt b.y0 b.y1 h.down)

-- a point makes both sides longer than 0
inside_sides : (b : Bounds) (x y : ℤ) → IsInside b x y → HasSides b
inside_sides b x y h = record { across = omega (arith, ints, h.left, h.right); down = omega (arith, ints, h.top, h.bottom) }

-- the first corner lies in a rectangle with sides
pub corner_inside : (b : Bounds) → HasSides b → IsInside b b.x0 b.y0
corner_inside b h = record { left = omega (arith, ints); right = h.across; top = omega (arith, ints); bottom = h.down }

pub no_points : (b : Bounds) → has_points b ≡ false → HasNoPoint b
no_points b e x y = misses_it b x y (λ i. true≢false (sym (sides_has b (inside_sides b x y i)) ∙ e))

pub has_none : (b : Bounds) → HasNoPoint b → has_points b ≡ false
has_none b f =
    elim (has_points b) as (λ t. has_points b ≡ t → t ≡ false) [
      | true ↦ (λ e. absurd (true≢false (sym (holds_it b b.x0 b.y0 (corner_inside b (has_sides b e))) ∙ f b.x0 b.y0)))
      | false ↦ (λ _. refl)
    ] refl

pub empty_from : (b : Bounds) (t : Bool) → t ≡ not (has_points b) → IsTrue t ↔ HasNoPoint b
empty_from b t e = (
  λ h. no_points b (not-true (has_points b) (sym e ∙ h)),
  λ f. e ∙ ap not (has_none b f),
)

nowhere_none : HasNoPoint nowhere
unfolding has_points
nowhere_none = no_points nowhere refl

pub nowhere_rect : IsRect nowhere
nowhere_rect =
    let zero : IsCoordinate (pos 0) = record { low = omega (arith, ints); high = omega (arith, ints) } in
    record { across = omega (arith, ints); down = omega (arith, ints); in_range = record { left = zero; top = zero; right = zero; bottom = zero } }

-- ---- area

pub area_none : (b : Bounds) → IsRect b → (area_of b ≡ 0) ↔ HasNoPoint b
area_none b ok = (
  λ e. no_points b (elim (has_points b) as (λ t. has_points b ≡ t → t ≡ false) [
    | true ↦ (λ h. absurd (sides_area (has_sides b h) e))
    | false ↦ (λ _. refl)
  ] refl),
  λ f. flat_area (λ s. true≢false (sym (sides_has b s) ∙ has_none b f)),
)
  where
    flat : (p q : ℤ) → p ≤ℤ q → q ≤ℤ p → unsigned_abs (q -ℤ p) ≡ 0
    flat p q h k = omega (arith, ints)

    long : (p q : ℤ) → p <ℤ q → 0 < unsigned_abs (q -ℤ p)
    long p q h = omega (arith, ints)

    sides_area : HasSides b → area_of b ≡ 0 → ⊥
    sides_area h e = omega (arith, e, mul-pos (long b.x0 b.x1 h.across) (long b.y0 b.y1 h.down))

    flat_area : (HasSides b → ⊥) → area_of b ≡ 0
    flat_area f =
        by_lt_z b.x0 b.x1
        (λ h. by_lt_z b.y0 b.y1
        (λ k. absurd (f (record { across = h; down = k })))
        (λ k. let e : unsigned_abs (b.y1 -ℤ b.y0) ≡ 0 = flat b.y0 b.y1 ok.down k in rw e (omega arith)))
        (λ h. let e : unsigned_abs (b.x1 -ℤ b.x0) ≡ 0 = flat b.x0 b.x1 ok.across h in rw e (omega arith))

-- ---- intersections

overlap_in : (a b : Bounds) (x y : ℤ) → IsInside a x y → IsInside b x y → IsInside (overlap a b) x y
overlap_in a b x y h k =
    record { left = omega (arith, ints, clamps, h.left, k.left); right = omega (arith, ints, clamps, h.right, k.right); top = omega (arith, ints, clamps, h.top, k.top); bottom = omega (arith, ints, clamps, h.bottom, k.bottom) }

overlap_out : (a b : Bounds) (x y : ℤ) → IsInside (overlap a b) x y → IsInside a x y × IsInside b x y
overlap_out a b x y h = (
  record { left = omega (arith, ints, clamps, h.left); right = omega (arith, ints, clamps, h.right); top = omega (arith, ints, clamps, h.top); bottom = omega (arith, ints, clamps, h.bottom) },
  record { left = omega (arith, ints, clamps, h.left); right = omega (arith, ints, clamps, h.right); top = omega (arith, ints, clamps, h.top); bottom = omega (arith, ints, clamps, h.bottom) },
)

overlap_points : (a b : Bounds) (x y : ℤ) → holds (overlap a b) x y ≡ (holds a x y && holds b x y)
overlap_points a b x y =
    same_tests (holds (overlap a b) x y) (holds a x y && holds b x y)
    (λ h. let k = overlap_out a b x y (inside (overlap a b) x y h) in and_from (holds a x y) (holds b x y) (holds_it a x y k.0) (holds_it b x y k.1))
    (λ h. let k = and_parts (holds a x y) (holds b x y) h in holds_it (overlap a b) x y (overlap_in a b x y (inside a x y k.0) (inside b x y k.1)))

points_if : (a b : Bounds) (x y : ℤ) (t : Bool) → has_points (overlap a b) ≡ t → holds (if t then overlap a b else nowhere) x y ≡ (holds a x y && holds b x y)
points_if a b x y true e = overlap_points a b x y
points_if a b x y false e = nowhere_none x y ∙ sym (no_points (overlap a b) e x y) ∙ overlap_points a b x y

pub intersection_points : (a b : Bounds) (x y : ℤ) → holds (intersection a b) x y ≡ (holds a x y && holds b x y)
unfolding intersection
intersection_points a b x y = points_if a b x y (has_points (overlap a b)) refl

pub intersection_apart : (a b : Bounds) → ((x y : ℤ) → IsFalse (holds a x y && holds b x y)) → intersection a b ≡ nowhere
unfolding intersection
intersection_apart a b f = ap (λ (t : Bool). if t then overlap a b else nowhere) (has_none (overlap a b) (λ x y. overlap_points a b x y ∙ f x y))

-- an intersection without points is nowhere
pub intersection_or_nowhere : (a b : Bounds) → has_points (intersection a b) ≡ false → intersection a b ≡ nowhere
intersection_or_nowhere a b e = intersection_apart a b (λ x y. sym (intersection_points a b x y) ∙ no_points (intersection a b) e x y)

pub intersection_met : (a b : Bounds) → HasSides (overlap a b) → overlap a b ≡ intersection a b
unfolding intersection
intersection_met a b h = ap (λ (t : Bool). if t then overlap a b else nowhere) (sym (sides_has (overlap a b) h))

pub intersection_missed : (a b : Bounds) → (HasSides (overlap a b) → ⊥) → nowhere ≡ intersection a b
unfolding intersection
intersection_missed a b f =
    elim (has_points (overlap a b)) as (λ t. has_points (overlap a b) ≡ t → nowhere ≡ (if t then overlap a b else nowhere)) [
      | true ↦ (λ e. absurd (f (has_sides (overlap a b) e)))
      | false ↦ (λ _. refl)
    ] refl

pub overlap_rect : (a b : Bounds) → IsRect a → IsRect b → HasSides (overlap a b) → IsRect (overlap a b)
overlap_rect a b f g s = record {
  across = omega (arith, ints, s.across);
  down = omega (arith, ints, s.down);
  in_range = record {
    left = max_in f.in_range.left g.in_range.left;
    top = max_in f.in_range.top g.in_range.top;
    right = min_in f.in_range.right g.in_range.right;
    bottom = min_in f.in_range.bottom g.in_range.bottom;
  };
}

-- ---- bounds of two

pub hull_rect : (a b : Bounds) → IsRect a → IsRect b → IsRect (hull a b)
hull_rect a b f g = record {
  across = omega (arith, ints, clamps, f.across, g.across);
  down = omega (arith, ints, clamps, f.down, g.down);
  in_range = record {
    left = min_in f.in_range.left g.in_range.left;
    top = min_in f.in_range.top g.in_range.top;
    right = max_in f.in_range.right g.in_range.right;
    bottom = max_in f.in_range.bottom g.in_range.bottom;
  };
}

hull_left : (a b : Bounds) (x y : ℤ) → IsInside a x y → IsInside (hull a b) x y
hull_left a b x y h =
    record { left = omega (arith, ints, clamps, h.left); right = omega (arith, ints, clamps, h.right); top = omega (arith, ints, clamps, h.top); bottom = omega (arith, ints, clamps, h.bottom) }

hull_right : (a b : Bounds) (x y : ℤ) → IsInside b x y → IsInside (hull a b) x y
hull_right a b x y h =
    record { left = omega (arith, ints, clamps, h.left); right = omega (arith, ints, clamps, h.right); top = omega (arith, ints, clamps, h.top); bottom = omega (arith, ints, clamps, h.bottom) }

-- the edges of the first lie on or beyond those of the second
pub record IsAround (r b : Bounds) : Type 0 where
  pub left : r.x0 ≤ℤ b.x0
  pub right : b.x1 ≤ℤ r.x1
  pub top : r.y0 ≤ℤ b.y0
  pub bottom : b.y1 ≤ℤ r.y1

pub around : (r b : Bounds) → HasSides b → Covers r b → IsAround r b
around r b s f =
    let first = inside r b.x0 b.y0 (f b.x0 b.y0 (holds_it b b.x0 b.y0 (corner_inside b s))) in
    let x = b.x1 -ℤ pos 1 in
    let y = b.y1 -ℤ pos 1 in
    let at : IsInside b x y = record { left = omega (arith, ints, s.across); right = omega (arith, ints); top = omega (arith, ints, s.down); bottom = omega (arith, ints) } in
    let last = inside r x y (f x y (holds_it b x y at)) in
    record { left = first.left; right = omega (arith, ints, last.right); top = first.top; bottom = omega (arith, ints, last.bottom) }

hull_least : (a b r : Bounds) (x y : ℤ) → IsAround r a → IsAround r b → IsInside (hull a b) x y → IsInside r x y
hull_least a b r x y f g h =
    record { left = omega (arith, ints, clamps, h.left, f.left, g.left); right = omega (arith, ints, clamps, h.right, f.right, g.right); top = omega (arith, ints, clamps, h.top, f.top, g.top); bottom = omega (arith, ints, clamps, h.bottom, f.bottom, g.bottom) }

-- what `bounding` gives, by whether each has points
abbrev pub bound_by : Bounds → Bounds → Bool → Bool → Bounds
bound_by a b s t = if s then (if t then hull a b else a) else (if t then b else nowhere)

-- what holds of the least rectangle with the points of both
pub record IsLeastBound (a b r : Bounds) : Type 0 where
  pub first : Covers r a
  pub second : Covers r b
  pub least : (q : Bounds) → Covers q a → Covers q b → Covers q r
  pub empty : HasNoPoint a → HasNoPoint b → r ≡ nowhere

none_covered : (r b : Bounds) → HasNoPoint b → Covers r b
none_covered r b f x y h = absurd (true≢false (sym h ∙ f x y))

bound_if : (a b : Bounds) (s t : Bool) → has_points a ≡ s → has_points b ≡ t → IsLeastBound a b (bound_by a b s t)
bound_if a b true true e f = record {
  first = λ x y h. holds_it (hull a b) x y (hull_left a b x y (inside a x y h));
  second = λ x y h. holds_it (hull a b) x y (hull_right a b x y (inside b x y h));
  least = λ q g k x y h. holds_it q x y (hull_least a b q x y (around q a (has_sides a e) g) (around q b (has_sides b f) k) (inside (hull a b) x y h));
  empty = λ g _. absurd (true≢false (sym e ∙ has_none a g));
}
bound_if a b true false e f = record {
  first = λ x y h. h;
  second = none_covered a b (no_points b f);
  least = λ q g _. g;
  empty = λ g _. absurd (true≢false (sym e ∙ has_none a g));
}
bound_if a b false true e f = record {
  first = none_covered b a (no_points a e);
  second = λ x y h. h;
  least = λ q _ k. k;
  empty = λ _ k. absurd (true≢false (sym f ∙ has_none b k));
}
bound_if a b false false e f = record {
  first = none_covered nowhere a (no_points a e);
  second = none_covered nowhere b (no_points b f);
  least = λ q _ _. none_covered q nowhere nowhere_none;
  empty = λ _ _. refl;
}

-- the bounds of two, by whether each has points
pub bounding_is_least : (a b : Bounds) → IsLeastBound a b (bounding a b)
unfolding bounding
bounding_is_least a b = bound_if a b (has_points a) (has_points b) refl refl

-- a rectangle with both tests known is the bound, with all its laws
pub bound_laws : (a b : Bounds) (s t : Bool) → not s ≡ not (has_points a) → not t ≡ not (has_points b) → (bound_by a b s t ≡ bounding a b) × IsLeastBound a b (bound_by a b s t)
unfolding bounding
bound_laws a b s t e f =
    let g : has_points a ≡ s = same_not s (has_points a) e in
    let h : has_points b ≡ t = same_not t (has_points b) f in
    (ap (λ (u : Bool). bound_by a b u t) (sym g) ∙ ap (λ (u : Bool). bound_by a b (has_points a) u) (sym h), bound_if a b s t g h)
  where
    same_not : (u v : Bool) → not u ≡ not v → v ≡ u
    same_not true true p = refl
    same_not false false p = refl
    same_not true false p = p
    same_not false true p = p

-- ---- moves

le_moved : (a b d : ℤ) → int_le (a +ℤ d) (b +ℤ d) ≡ int_le a b
le_moved a b d = same_tests (int_le (a +ℤ d) (b +ℤ d)) (int_le a b) (λ h. is_le a b (let k = le_is (a +ℤ d) (b +ℤ d) h in omega (arith, ints))) (λ h. is_le (a +ℤ d) (b +ℤ d) (let k = le_is a b h in omega (arith, ints)))

lt_moved : (a b d : ℤ) → int_lt (a +ℤ d) (b +ℤ d) ≡ int_lt a b
lt_moved a b d = same_tests (int_lt (a +ℤ d) (b +ℤ d)) (int_lt a b) (λ h. is_lt a b (let k = lt_is (a +ℤ d) (b +ℤ d) h in omega (arith, ints))) (λ h. is_lt (a +ℤ d) (b +ℤ d) (let k = lt_is a b h in omega (arith, ints)))

pub shifted_points : (b : Bounds) (by : Point) (x y : ℤ) → holds (shifted b by) (x +ℤ by.x) (y +ℤ by.y) ≡ holds b x y
unfolding holds
shifted_points b by x y =
    rw (le_moved b.x0 x by.x, lt_moved x b.x1 by.x, le_moved b.y0 y by.y, lt_moved y b.y1 by.y)
