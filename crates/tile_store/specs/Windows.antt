-- The rows of the open window.
use Rattle.std.specs.Prelude.{ℕ, List, [], Option, Some, None, ℤ, ◌<ℤ◌}
use Rattle.std.specs.Option.{option_map_or}
use Rattle.blend_rules.specs.declared.plane.Plane.{Plane}
use Rattle.span_kernels.specs.PlanesModel.{part_of, with_part}
use Rattle.wr_geom.specs.Bounds.{Bounds, width_of}
use Rattle.tile_store.specs.declared.tile.Tile.{Tile}
use Rattle.tile_store.specs.declared.window.Window.{Window}
use Rattle.tile_store.specs.Tiles.{HasRow, tile_at, changed_at, column_of, row_of}
use Rattle.tile_store.specs.StoreModel.{StoreModel}

-- a window is open that isn't empty, and y is the coordinate of one of its rows
abbrev pub HasWindowRow : Option Window → ℤ → Type 0
HasWindowRow None y = ⊥
HasWindowRow (Some window) y = (window.rect.x0 <ℤ window.rect.x1) × HasRow window.rect y

-- how many pixels each row of the open window has
abbrev pub window_width : Option Window → ℕ
window_width window = option_map_or (λ w. width_of w.rect) window 0

module _ {R : Type 0} where
  -- the bytes of one plane of a tile in a row of a rectangle
  abbrev pub part_in : Bounds → Plane → ℤ → Tile R → List ℕ
  part_in rect plane y tile = part_of plane tile.planes (row_of tile.rect y) (column_of tile.rect rect.x0) (width_of rect)

  -- the tile with other bytes there
  abbrev pub with_part_in : Bounds → Plane → ℤ → List ℕ → Tile R → Tile R
  with_part_in rect plane y bytes tile =
      record tile { planes = with_part plane (row_of tile.rect y) (column_of tile.rect rect.x0) bytes tile.planes }

  -- the bytes of one plane in a row of the open window
  abbrev pub window_row : StoreModel R → Plane → ℤ → List ℕ
  window_row store plane y =
      option_map_or (λ w. option_map_or (part_in w.rect plane y) (tile_at w.key store.tiles) []) store.window []

  -- the store with other bytes in a row of the open window
  abbrev pub with_window_row : Plane → ℤ → List ℕ → StoreModel R → StoreModel R
  with_window_row plane y bytes store = record store {
    tiles = option_map_or (λ w. changed_at w.key (with_part_in w.rect plane y bytes) store.tiles) store.window store.tiles;
  }
