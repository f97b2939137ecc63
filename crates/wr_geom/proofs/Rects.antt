-- Laws of rectangles: intersections, bounds of two, and moves.
use Rattle.std.proofs.Common.{◌≡◌, ℤ, ◌≤ℤ◌, ◌+ℤ◌, ◌-ℤ◌, ◌*◌, Bool, true, false, ◌&&◌, if◌then◌else◌, unsigned_abs, refl, sym, ap, ap₂, ◌∙◌, true≢false, arith}
use Rattle.std.proofs.lemmas.Int.{ints}
use Rattle.std.proofs.Math.Bool.{and_comm, and_assoc}
use Rattle.wr_geom.specs.declared.point.Point.{Point}
use Rattle.wr_geom.specs.Bounds.{Bounds, IsRect, IsInRange, Covers, holds, has_points, nowhere, overlap, intersection, bounding, shifted}
use Rattle.wr_geom.specs.Laws.{SamePointsAreOneRect, IntersectionCommutes, IntersectionAssociates, BoundingCoversFirst, BoundingCoversSecond, BoundingIsLeast, BoundingOfEmptyIsNowhere, ShiftedTwiceIsBySum, ShiftedKeepsArea}
use Rattle.wr_geom.proofs.Points.{same_bounds, has_sides, has_none, no_points, around, intersection_points, intersection_or_nowhere, nowhere_rect, overlap_rect, hull_rect, bound_by, bounding_is_least}

-- ---- one rectangle

from_both : (p q : ℤ) → p ≤ℤ q → q ≤ℤ p → p ≡ q
from_both p q h k = omega (arith, ints)

covers_by : (a b : Bounds) → ((x y : ℤ) → holds a x y ≡ holds b x y) → Covers a b
covers_by a b f x y h = f x y ∙ h

pub same_points : SamePointsAreOneRect
same_points a b h f = by_test (has_points b) refl
  where
    by_test : (t : Bool) → has_points b ≡ t → a ≡ b
    by_test true k =
        let i = around a b (has_sides b k) (covers_by a b f) in
        let j = around b a (has_sides a h) (covers_by b a (λ x y. sym (f x y))) in
        same_bounds a b (from_both _ _ i.left j.left) (from_both _ _ i.top j.top) (from_both _ _ j.right i.right) (from_both _ _ j.bottom i.bottom)
    by_test false k = absurd (true≢false (sym h ∙ has_none a (λ x y. f x y ∙ no_points b k x y)))

-- rectangles that are nowhere unless they have points are one where they have the same
same_or_nowhere : (a b : Bounds) → (has_points a ≡ false → a ≡ nowhere) → (has_points b ≡ false → b ≡ nowhere) → ((x y : ℤ) → holds a x y ≡ holds b x y) → a ≡ b
same_or_nowhere a b p q f = by_test (has_points a) refl
  where
    by_test : (t : Bool) → has_points a ≡ t → a ≡ b
    by_test true h = same_points a b h f
    by_test false h = p h ∙ sym (q (has_none b (λ x y. sym (f x y) ∙ no_points a h x y)))

-- ---- intersections

pub intersection_commutes : IntersectionCommutes
intersection_commutes a b =
    same_or_nowhere (intersection a b) (intersection b a) (intersection_or_nowhere a b) (intersection_or_nowhere b a)
    (λ x y. intersection_points a b x y ∙ and_comm (holds a x y) (holds b x y) ∙ sym (intersection_points b a x y))

pub intersection_associates : IntersectionAssociates
intersection_associates a b c =
    same_or_nowhere (intersection (intersection a b) c) (intersection a (intersection b c)) (intersection_or_nowhere (intersection a b) c) (intersection_or_nowhere a (intersection b c))
    (λ x y. intersection_points (intersection a b) c x y ∙ ap (λ (t : Bool). t && holds c x y) (intersection_points a b x y)
    ∙ and_assoc (holds a x y) (holds b x y) (holds c x y)
    ∙ sym (intersection_points a (intersection b c) x y ∙ ap (λ (t : Bool). holds a x y && t) (intersection_points b c x y)))

-- an intersection lies in both
pub intersection_in_first : (a b : Bounds) → Covers a (intersection a b)
intersection_in_first a b x y h = both (holds a x y) (holds b x y) (sym (intersection_points a b x y) ∙ h)
  where
    both : (s t : Bool) → (s && t) ≡ true → s ≡ true
    both true t e = refl
    both false t e = e

pub intersection_in_second : (a b : Bounds) → Covers b (intersection a b)
intersection_in_second a b x y h = intersection_in_first b a x y (ap (λ (r : Bounds). holds r x y) (intersection_commutes b a) ∙ h)

-- a rectangle that has points and lies in another is its intersection with it
pub intersection_of_part : (a b : Bounds) → has_points b ≡ true → Covers a b → intersection a b ≡ b
intersection_of_part a b h f = sym (same_points b (intersection a b) h (λ x y. sym (intersection_points a b x y ∙ part (holds a x y) (holds b x y) (f x y))))
  where
    part : (s t : Bool) → (t ≡ true → s ≡ true) → (s && t) ≡ t
    part true t f = refl
    part false true f = f refl
    part false false f = refl

pub intersection_rect : (a b : Bounds) → IsRect a → IsRect b → IsRect (intersection a b)
unfolding intersection
intersection_rect a b f g = by_test (has_points (overlap a b)) refl
  where
    by_test : (t : Bool) → has_points (overlap a b) ≡ t → IsRect (if t then overlap a b else nowhere)
    by_test true h = overlap_rect a b f g (has_sides (overlap a b) h)
    by_test false h = nowhere_rect

-- ---- bounds of two

pub bounding_covers_first : BoundingCoversFirst
bounding_covers_first a b = (bounding_is_least a b).first

pub bounding_covers_second : BoundingCoversSecond
bounding_covers_second a b = (bounding_is_least a b).second

pub bounding_least : BoundingIsLeast
bounding_least a b = (bounding_is_least a b).least

pub bounding_of_empty : BoundingOfEmptyIsNowhere
bounding_of_empty a b = (bounding_is_least a b).empty

pub bounding_rect : (a b : Bounds) → IsRect a → IsRect b → IsRect (bounding a b)
unfolding bounding
bounding_rect a b f g = by_tests (has_points a) (has_points b)
  where
    by_tests : (s t : Bool) → IsRect (bound_by a b s t)
    by_tests true true = hull_rect a b f g
    by_tests true false = f
    by_tests false true = g
    by_tests false false = nowhere_rect

-- ---- moves

pub shifted_twice : ShiftedTwiceIsBySum
shifted_twice b p q = same_bounds _ _ (sum b.x0 p.x q.x) (sum b.y0 p.y q.y) (sum b.x1 p.x q.x) (sum b.y1 p.y q.y)
  where
    sum : (z d e : ℤ) → (z +ℤ d) +ℤ e ≡ z +ℤ (d +ℤ e)
    sum z d e = omega (arith, ints)

pub shifted_area : ShiftedKeepsArea
shifted_area b by = ap₂ (λ m n. m * n) (ap unsigned_abs (side b.x1 b.x0 by.x)) (ap unsigned_abs (side b.y1 b.y0 by.y))
  where
    side : (p q d : ℤ) → (p +ℤ d) -ℤ (q +ℤ d) ≡ p -ℤ q
    side p q d = omega (arith, ints)

-- a rectangle that is moved within the range is one
pub shifted_rect : (b : Bounds) (by : Point) → IsRect b → IsInRange (shifted b by) → IsRect (shifted b by)
shifted_rect b by h k = record { across = order b.x0 b.x1 by.x h.across; down = order b.y0 b.y1 by.y h.down; in_range = k }
  where
    order : (p q d : ℤ) → p ≤ℤ q → (p +ℤ d) ≤ℤ (q +ℤ d)
    order p q d e = omega (arith, ints)
