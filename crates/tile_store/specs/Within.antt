-- How a store keeps its tiles: while a window is open, the planes of its tile stand beside the cache.
use Rattle.std.specs.Prelude.{◌≡◌, Option, Some, None, option_map}
use Rattle.span_kernels.specs.PlanesModel.{PlanesModel}
use Rattle.tile_store.specs.declared.tile.Tile.{Tile}
use Rattle.tile_store.specs.declared.window.Window.{Window}
use Rattle.tile_store.specs.declared.window.OpenWindow.{OpenWindow}
use Rattle.tile_store.specs.Tiles.{TileList, tile_at, changed_at}

-- the window that is open
abbrev pub window_of : Option OpenWindow → Option Window
window_of w = option_map (λ o. o.window) w

module _ {R : Type 0} where
  -- the tile with these planes in place of its own
  abbrev pub with_planes : PlanesModel → Tile R → Tile R
  with_planes planes tile = record tile { planes = planes }

  -- the tiles, with the planes that are taken out put back into the open one
  abbrev pub put_back : TileList R → Option OpenWindow → PlanesModel → TileList R
  put_back tiles None planes = tiles
  put_back tiles (Some o) planes = changed_at o.window.key (with_planes planes) tiles

  -- the open tile is kept, and its rectangle is known
  abbrev pub IsOpenIn : TileList R → Option OpenWindow → Type 0
  IsOpenIn tiles None = Unit {0}
  IsOpenIn tiles (Some o) = (tile : Tile R) × (tile_at o.window.key tiles ≡ Some tile) × (tile.rect ≡ o.tile)
