-- What holds of the values of fields that pass.
use Rattle.std.specs.Prelude.{ℕ, ℤ, pos, negsuc, ◌<◌, ◌^◌, ◌≤ℤ◌, Option, Some, None}
use Rattle.wr_geom.specs.Bounds.{Bounds}

-- within two to the 20th of 0
pub record IsNear (z : ℤ) : Type 0 where
  pub low : negsuc 1048575 ≤ℤ z
  pub high : z ≤ℤ pos 1048576

-- near corners in order
pub record IsRectangle (b : Bounds) : Type 0 where
  pub left : IsNear b.x0
  pub top : IsNear b.y0
  pub right : IsNear b.x1
  pub bottom : IsNear b.y1
  pub across : b.x0 ≤ℤ b.x1
  pub down : b.y0 ≤ℤ b.y1

-- one of so many, or none
abbrev pub IsDefined : ℕ → Option ℕ → Type 0
IsDefined count None = Unit {0}
IsDefined count (Some n) = n < count

-- a number that names one of so many, and fits its field of two bytes
pub record IsReference (count n : ℕ) : Type 0 where
  pub defined : n < count
  pub fits : n < 2 ^ 16

-- the same, or none, for which 65535 stands
abbrev pub IsOptionalReference : ℕ → Option ℕ → Type 0
IsOptionalReference count None = Unit {0}
IsOptionalReference count (Some n) = IsReference count n × (n < 65535)

-- a number that fits its field and doesn't stand for none, or none
abbrev pub FitsOptional : Option ℕ → Type 0
FitsOptional None = Unit {0}
FitsOptional (Some n) = n < 65535
