-- Tiles whose records are made together.
use Rattle.std.specs.Prelude.{ℕ, ◌≤◌}
use Rattle.wr_geom.specs.Bounds.{Bounds}
use Rattle.tile_grid.specs.Grids.{tile_in}
use Rattle.tile_grid.specs.declared.part.GridPart.{GridPart}
use Rattle.tile_records.specs.declared.tiles.Tiles.{Tiles}
use Rattle.tile_records.specs.declared.tiles.Tiles.TheVariants.{Grid, One}

abbrev pub columns_of : Tiles → ℕ
columns_of (Grid g) = g.columns.count
columns_of (One rect) = 1

abbrev pub rows_of : Tiles → ℕ
rows_of (Grid g) = g.rows.count
rows_of (One rect) = 1

-- the rectangle of the tile in a column and a row
abbrev pub rect_at : Tiles → ℕ → ℕ → Bounds
rect_at (Grid g) c r = (tile_in g c r).rect
rect_at (One rect) c r = rect

-- a part that is in order, and has no column and no row beyond theirs
pub record IsPartIn (tiles : Tiles) (p : GridPart) : Type 0 where
  pub across : p.columns.from ≤ p.columns.to
  pub right : p.columns.to ≤ columns_of tiles
  pub down : p.rows.from ≤ p.rows.to
  pub bottom : p.rows.to ≤ rows_of tiles
