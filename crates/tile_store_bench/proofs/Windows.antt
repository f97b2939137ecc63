-- Rows of the open window and of kept tiles.
use Rattle.std.proofs.Common.{◌≡◌, Option, Some, None, option_map, ℤ, ◌<ℤ◌}
use Rattle.wr_geom.specs.Bounds.{Bounds}
use Rattle.tile_store.specs.declared.tile.Tile.{Tile}
use Rattle.tile_store.specs.declared.window.Window.{Window}
use Rattle.tile_store.specs.Tiles.{HasRow, HasRowWhereKept}
use Rattle.tile_store.specs.Windows.{HasWindowRow}

pub row_of_window : (w : Option Window) (part : Bounds) (y : ℤ) → option_map (λ v. v.rect) w ≡ Some part → part.x0 <ℤ part.x1 → HasRow part y → HasWindowRow w y
row_of_window None part y h across row = cc
row_of_window (Some v) part y h across row = let same : v.rect ≡ part = cc in rw same (across, row)

pub row_where_kept : {R : Type 0} (o : Option (Tile R)) (rect : Bounds) (y : ℤ) → option_map (λ t. t.rect) o ≡ Some rect → HasRow rect y → HasRowWhereKept o y
row_where_kept None rect y h row = tt
row_where_kept (Some u) rect y h row = let same : u.rect ≡ rect = cc in rw same row
