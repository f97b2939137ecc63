-- Parts of grids.
use Rattle.std.specs.Prelude.{ℕ, ◌≤◌, ◌<◌, Bool, ◌&&◌, nat_le, nat_lt, ℤ, pos, ◌+ℤ◌, ◌*ℤ◌, ◌<ℤ◌}
use Rattle.tile_grid.specs.declared.part.GridPart.{GridPart}
use Rattle.tile_grid.specs.declared.part.SpanPart.{SpanPart}
use Rattle.tile_grid.specs.Grids.{GridModel}

-- the column or row k is one of a part
pub record IsInPart (p : SpanPart) (k : ℕ) : Type 0 where
  pub from : p.from ≤ k
  pub to : k < p.to

-- whether the tile in the column c and the row r is one of a part
unfoldable pub is_in_part : GridPart → ℕ → ℕ → Bool
is_in_part p c r = (nat_le p.columns.from c && nat_lt c p.columns.to) && (nat_le p.rows.from r && nat_lt r p.rows.to)

-- the tile t of one axis has a coordinate from a up to b, without that
pub record HasCoordinates (side : ℕ) (a b t : ℤ) : Type 0 where
  pub begins : (t *ℤ pos side) <ℤ b
  pub ends : a <ℤ (t *ℤ pos side +ℤ pos side)

-- it is in order, and has no column and no row beyond the grid's
pub record IsPartOf (g : GridModel) (p : GridPart) : Type 0 where
  pub across : p.columns.from ≤ p.columns.to
  pub right : p.columns.to ≤ g.columns.count
  pub down : p.rows.from ≤ p.rows.to
  pub bottom : p.rows.to ≤ g.rows.count
