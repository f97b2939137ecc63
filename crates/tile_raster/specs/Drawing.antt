-- What a drawing asks of its entries, corner and scratch.
use Rattle.std.specs.Prelude.{ℕ, ◌^◌, pos, neg_ℤ, ◌≤ℤ◌}
use Rattle.wr_geom.specs.declared.point.Point.{Point}

-- what contracts see of scratch: the pixels of its rows, and for how many entries it can keep notes
pub record ScratchModel : Type 0 where
  pub width : ℕ
  pub room : ℕ

-- a corner of planes: both coordinates lie within two to the 28th of 0
pub record IsCorner (p : Point) : Type 0 where
  pub left : neg_ℤ (pos (2 ^ 28)) ≤ℤ p.x
  pub right : p.x ≤ℤ pos (2 ^ 28)
  pub top : neg_ℤ (pos (2 ^ 28)) ≤ℤ p.y
  pub bottom : p.y ≤ℤ pos (2 ^ 28)
