-- Black tiles.
use Rattle.std.specs.Prelude.{◌≡◌, ℕ, ◌<◌, ◌^◌, ◌<ℤ◌, List, All, Option, Some, IfSome, option_map, slice_index_or}
use Rattle.wr_geom.specs.Bounds.{Bounds}
use Rattle.wr_geom.specs.declared.keys.TileKey.{TileKey}
use Rattle.tile_grid.specs.Tiles.{tile_rect}
use Rattle.tile_grid.specs.declared.tile.TileSides.{TileSides}
use Rattle.span_kernels.specs.PlanesModel.{PlanesModel}
use Rattle.tile_compositor.specs.Composition.{IsPlacedIn}
use Rattle.tile_compositor.specs.declared.placed.Placed.{Placed}
use Rattle.tile_store.specs.declared.tile.Tile.{Tile}
use Rattle.tile_store.specs.declared.window.Window.{Window}
use Rattle.tile_store.specs.Tiles.{TileList, tile_at}

module _ {R : Type 0} where
  -- a tile with the rectangle of its key, all of whose colours are black under some alpha
  pub record IsBlack (sides : TileSides) (key : TileKey) (tile : Tile R) : Type 0 where
    pub rect : tile.rect ≡ tile_rect sides key.col key.row
    pub blue : (k : ℕ) → slice_index_or tile.planes.blue k 0 ≡ 0
    pub green : (k : ℕ) → slice_index_or tile.planes.green k 0 ≡ 0
    pub red : (k : ℕ) → slice_index_or tile.planes.red k 0 ≡ 0
    pub alpha : (k : ℕ) → slice_index_or tile.planes.alpha k 0 < 2 ^ 8

  -- each kept tile is such a one
  abbrev pub AreBlack : TileSides → TileList R → Type 0
  AreBlack sides tiles = (key : TileKey) → IfSome (tile_at key tiles) (λ tile. IsBlack sides key tile)

-- a window with points is open on this rectangle
pub record IsOpenOn (rect : Bounds) (window : Option Window) : Type 0 where
  pub open_is : option_map (λ w. w.rect) window ≡ Some rect
  pub across : rect.x0 <ℤ rect.x1

-- a slice that each frame of these sides can show
abbrev pub FitsFrame : ℕ → ℕ → Placed → Type 0
FitsFrame width height p = (frame : PlanesModel) → frame.width ≡ width → frame.height ≡ height → IsPlacedIn frame p

-- slices of which each can be shown so
abbrev pub FitFrame : ℕ → ℕ → List Placed → Type 0
FitFrame width height placed = (frame : PlanesModel) → frame.width ≡ width → frame.height ≡ height → All (IsPlacedIn frame) placed
