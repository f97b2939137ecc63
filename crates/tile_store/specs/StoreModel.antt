-- What contracts see of a store of tiles.
use Rattle.std.specs.Prelude.{ℕ, ◌≤◌, ◌+◌, ◌-◌, ◌^◌, min, length, Option, Some, None}
use Rattle.wr_geom.specs.Bounds.{Bounds, Covers}
use Rattle.tile_store.specs.declared.limits.TheConstants.{MAX_TILES}
use Rattle.tile_store.specs.declared.tile.Tile.{Tile}
use Rattle.tile_store.specs.declared.window.Window.{Window}
use Rattle.tile_store.specs.Tiles.{TileList, AreTiles, tile_at}

-- the kept tiles, the most recent first; the open window, if there is one; and how many pixels windows had in all
pub record StoreModel (R : Type 0) : Type 0 where
  pub tiles : TileList R
  pub window : Option Window
  pub opened : ℕ

-- the count with more pixels, at most the last value of 64 bits
abbrev pub opened_after : ℕ → ℕ → ℕ
opened_after opened pixels = min (opened + pixels) (2 ^ 64 - 1)

module _ {R : Type 0} where
  -- a tile is kept, and each point of the rectangle lies in it
  abbrev pub LiesInTile : Bounds → Option (Tile R) → Type 0
  LiesInTile rect None = ⊥
  LiesInTile rect (Some tile) = Covers tile.rect rect

  -- a window lies in its tile
  abbrev pub LiesInItsTile : Option Window → TileList R → Type 0
  LiesInItsTile None tiles = Unit {0}
  LiesInItsTile (Some window) tiles = LiesInTile window.rect (tile_at window.key tiles)

  -- what holds of every store, beside that its keys are distinct
  pub record IsStore (store : StoreModel R) : Type 0 where
    pub count : length store.tiles ≤ MAX_TILES
    pub tiles : AreTiles store.tiles
    pub window : LiesInItsTile store.window store.tiles
