-- Points of the plane, and distances on each axis.
use Rattle.std.specs.Prelude.{◌+ℤ◌, FitsSigned}
use Rattle.std.specs.Int.{w32}
use Rattle.wr_geom.specs.declared.point.Point.{Point}

-- both coordinates fit 32 bits
pub record IsPoint (p : Point) : Type 0 where
  pub across : FitsSigned w32 p.x
  pub down : FitsSigned w32 p.y

-- the sum of two on each axis
abbrev pub point_sum : Point → Point → Point
point_sum p q = record { x = p.x +ℤ q.x; y = p.y +ℤ q.y }
