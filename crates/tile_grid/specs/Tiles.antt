-- Tiles of one size, side by side over the plane.
use Rattle.std.specs.Prelude.{ℕ, ◌≤◌, Bool, ℤ, pos, ◌+ℤ◌, ◌*ℤ◌}
use Rattle.wr_geom.specs.Bounds.{Bounds, has_points, intersection}
use Rattle.tile_grid.specs.declared.limits.TheConstants.{MIN_GRID_TILE, MAX_GRID_TILE}
use Rattle.tile_grid.specs.declared.tile.GridTile.{GridTile}
use Rattle.tile_grid.specs.declared.tile.TileSides.{TileSides}

-- whether some point lies in both rectangles
unfoldable pub meets : Bounds → Bounds → Bool
meets a b = has_points (intersection a b)

-- a side of a tile in a grid: 64 to 1,024 pixels
pub record IsTileSide (n : ℕ) : Type 0 where
  pub some : MIN_GRID_TILE ≤ n
  pub most : n ≤ MAX_GRID_TILE

pub record AreTileSides (s : TileSides) : Type 0 where
  pub width : IsTileSide s.width
  pub height : IsTileSide s.height

-- the rectangle of the tile in a column and a row: as many widths and heights from the point (0, 0)
abbrev pub tile_rect : TileSides → ℤ → ℤ → Bounds
tile_rect s col row = record {
  x0 = col *ℤ pos s.width;
  y0 = row *ℤ pos s.height;
  x1 = col *ℤ pos s.width +ℤ pos s.width;
  y1 = row *ℤ pos s.height +ℤ pos s.height;
}

-- that tile
abbrev pub tile : TileSides → ℤ → ℤ → GridTile
tile s col row = record { col = col; row = row; rect = tile_rect s col row }
