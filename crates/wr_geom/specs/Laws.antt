-- What holds of rectangles, as laws on the definitions.
use Rattle.std.specs.Prelude.{◌≡◌, ℤ, ◌+ℤ◌, ◌&&◌, IsTrue, IsFalse}
use Rattle.wr_geom.specs.declared.point.Point.{Point}
use Rattle.wr_geom.specs.Points.{point_sum}
use Rattle.wr_geom.specs.Bounds.{Bounds, HasNoPoint, Covers, holds, has_points, nowhere, intersection, bounding, shifted, area_of}

-- a rectangle with points is known by them
abbrev pub SamePointsAreOneRect : Type 0
SamePointsAreOneRect = (a b : Bounds) → IsTrue (has_points a) → ((x y : ℤ) → holds a x y ≡ holds b x y) → a ≡ b

-- an intersection has the points of both
abbrev pub IntersectionHasSharedPoints : Type 0
IntersectionHasSharedPoints = (a b : Bounds) (x y : ℤ) → holds (intersection a b) x y ≡ (holds a x y && holds b x y)

-- where two share no point, their intersection is [0 0 0 0]
abbrev pub IntersectionOfApartIsNowhere : Type 0
IntersectionOfApartIsNowhere = (a b : Bounds) → ((x y : ℤ) → IsFalse (holds a x y && holds b x y)) → intersection a b ≡ nowhere

-- the order of two that are intersected is free
abbrev pub IntersectionCommutes : Type 0
IntersectionCommutes = (a b : Bounds) → intersection a b ≡ intersection b a

-- three may be intersected in either grouping
abbrev pub IntersectionAssociates : Type 0
IntersectionAssociates = (a b c : Bounds) → intersection (intersection a b) c ≡ intersection a (intersection b c)

-- the bounds of two have the points of the first
abbrev pub BoundingCoversFirst : Type 0
BoundingCoversFirst = (a b : Bounds) → Covers (bounding a b) a

-- and those of the second
abbrev pub BoundingCoversSecond : Type 0
BoundingCoversSecond = (a b : Bounds) → Covers (bounding a b) b

-- and lie in each rectangle with the points of both
abbrev pub BoundingIsLeast : Type 0
BoundingIsLeast = (a b r : Bounds) → Covers r a → Covers r b → Covers r (bounding a b)

-- the bounds of two without points are [0 0 0 0]
abbrev pub BoundingOfEmptyIsNowhere : Type 0
BoundingOfEmptyIsNowhere = (a b : Bounds) → HasNoPoint a → HasNoPoint b → bounding a b ≡ nowhere

-- a moved rectangle has the moved points
abbrev pub ShiftedHasMovedPoints : Type 0
ShiftedHasMovedPoints = (b : Bounds) (by : Point) (x y : ℤ) → holds (shifted b by) (x +ℤ by.x) (y +ℤ by.y) ≡ holds b x y

-- moving twice is moving by the sum
abbrev pub ShiftedTwiceIsBySum : Type 0
ShiftedTwiceIsBySum = (b : Bounds) (p q : Point) → shifted (shifted b p) q ≡ shifted b (point_sum p q)

-- moving keeps the area
abbrev pub ShiftedKeepsArea : Type 0
ShiftedKeepsArea = (b : Bounds) (by : Point) → area_of (shifted b by) ≡ area_of b
