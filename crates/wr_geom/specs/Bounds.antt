-- Rectangles as sets of points of the plane.
use Rattle.std.specs.Prelude.{ℕ, ◌*◌, ◌^◌, ℤ, pos, neg_ℤ, ◌+ℤ◌, ◌-ℤ◌, ◌≤ℤ◌, Bool, ◌&&◌, int_le, int_lt, unsigned_abs, IsTrue, IsFalse, if◌then◌else◌}
use Rattle.std.specs.Int.{int_max, int_min}
use Rattle.std.specs.Ordering.{int_eq}
use Rattle.wr_geom.specs.declared.point.Point.{Point}

-- from the first corner up to the second, without it
pub record Bounds : Type 0 where
  pub x0 : ℤ
  pub y0 : ℤ
  pub x1 : ℤ
  pub y1 : ℤ

-- a coordinate of a rectangle: at most two to the 29th on either side of 0
pub record IsCoordinate (z : ℤ) : Type 0 where
  pub low : neg_ℤ (pos (2 ^ 29)) ≤ℤ z
  pub high : z ≤ℤ pos (2 ^ 29)

-- all four are coordinates of a rectangle
pub record IsInRange (b : Bounds) : Type 0 where
  pub left : IsCoordinate b.x0
  pub top : IsCoordinate b.y0
  pub right : IsCoordinate b.x1
  pub bottom : IsCoordinate b.y1

-- the corners are in order and in range
pub record IsRect (b : Bounds) : Type 0 where
  pub across : b.x0 ≤ℤ b.x1
  pub down : b.y0 ≤ℤ b.y1
  pub in_range : IsInRange b

-- whether the point (x, y) lies in it
unfoldable pub holds : Bounds → ℤ → ℤ → Bool
holds b x y = int_le b.x0 x && int_lt x b.x1 && int_le b.y0 y && int_lt y b.y1

-- whether all four edges are the same
unfoldable pub same_rect : Bounds → Bounds → Bool
same_rect a b = int_eq a.x0 b.x0 && (int_eq a.y0 b.y0 && (int_eq a.x1 b.x1 && int_eq a.y1 b.y1))

-- no point lies in it
abbrev pub HasNoPoint : Bounds → Type 0
HasNoPoint b = (x y : ℤ) → IsFalse (holds b x y)

-- each point of the first lies in the second
abbrev pub Covers : Bounds → Bounds → Type 0
Covers r b = (x y : ℤ) → IsTrue (holds b x y) → IsTrue (holds r x y)

-- whether some point lies in it
unfoldable pub has_points : Bounds → Bool
has_points b = int_lt b.x0 b.x1 && int_lt b.y0 b.y1

-- the rectangle that stands for no point
abbrev pub nowhere : Bounds
nowhere = record { x0 = pos 0; y0 = pos 0; x1 = pos 0; y1 = pos 0 }

-- the innermost edges of two, out of order where they share no point
abbrev pub overlap : Bounds → Bounds → Bounds
overlap a b = record { x0 = int_max a.x0 b.x0; y0 = int_max a.y0 b.y0; x1 = int_min a.x1 b.x1; y1 = int_min a.y1 b.y1 }

-- the points of both
unfoldable pub intersection : Bounds → Bounds → Bounds
intersection a b = if has_points (overlap a b) then overlap a b else nowhere

-- the outermost edges of two
abbrev pub hull : Bounds → Bounds → Bounds
hull a b = record { x0 = int_min a.x0 b.x0; y0 = int_min a.y0 b.y0; x1 = int_max a.x1 b.x1; y1 = int_max a.y1 b.y1 }

-- the least rectangle with the points of both
unfoldable pub bounding : Bounds → Bounds → Bounds
bounding a b = if has_points a then (if has_points b then hull a b else a) else (if has_points b then b else nowhere)

-- moved by a number of pixels
abbrev pub shifted : Bounds → Point → Bounds
shifted b by = record { x0 = b.x0 +ℤ by.x; y0 = b.y0 +ℤ by.y; x1 = b.x1 +ℤ by.x; y1 = b.y1 +ℤ by.y }

-- how many pixels lie across it
abbrev pub width_of : Bounds → ℕ
width_of b = unsigned_abs (b.x1 -ℤ b.x0)

-- how many pixels lie down it
abbrev pub height_of : Bounds → ℕ
height_of b = unsigned_abs (b.y1 -ℤ b.y0)

-- width times height, the number of its points
abbrev pub area_of : Bounds → ℕ
area_of b = width_of b * height_of b
