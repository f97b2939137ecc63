-- What holds of stores of tiles, as laws on the definitions.
use Rattle.std.specs.Prelude.{◌≡◌, ◌≢◌, ℕ, ◌<◌, ◌⊎◌, List, ◌∷◌, length, slice_index_or, Some, None, ℤ, pos, ◌+ℤ◌, ◌<ℤ◌, ◌≤ℤ◌, IsTrue}
use Rattle.std.specs.List.{IsDistinct}
use Rattle.std.specs.Map.{keys_of}
use Rattle.blend_rules.specs.declared.plane.Plane.{Plane}
use Rattle.span_kernels.specs.PlanesModel.{plane_of}
use Rattle.wr_geom.specs.Bounds.{Bounds, holds, width_of}
use Rattle.wr_geom.specs.declared.keys.TileKey.{TileKey}
use Rattle.tile_store.specs.declared.tile.Tile.{Tile}
use Rattle.tile_store.specs.declared.window.Window.{Window}
use Rattle.tile_store.specs.Keys.{same_key}
use Rattle.tile_store.specs.Tiles.{TileList, tile_at, tile_byte, without, touched, changed_at, popped_over, blank_tile}
use Rattle.tile_store.specs.StoreModel.{StoreModel, IsStore}
use Rattle.tile_store.specs.Windows.{HasWindowRow, with_window_row}

module _ {R : Type 0} where
  -- no two tiles have one key
  abbrev pub HaveOwnKeys : TileList R → Type 0
  HaveOwnKeys tiles = IsDistinct same_key (keys_of tiles)

  -- ---- pixels change only through a window

  -- a tile that is kept before and after has the same rectangle and the same bytes
  abbrev pub KeepsPixels : TileList R → TileList R → Type 0
  KeepsPixels old new = (key : TileKey) (before after : Tile R) → tile_at key old ≡ Some before → tile_at key new ≡ Some after
      → (after.rect ≡ before.rect) × (after.planes ≡ before.planes)

  -- after is before, with bytes in the part of row y of one plane that lies in a rectangle
  pub record IsRowWritten (before after : Tile R) (rect : Bounds) (plane : Plane) (y : ℤ) (bytes : List ℕ) : Type 0 where
    pub same_rect : after.rect ≡ before.rect
    pub same_note : after.note ≡ before.note
    pub inside : (k : ℕ) → k < length bytes → tile_byte plane after (rect.x0 +ℤ pos k) y ≡ slice_index_or bytes k 0
    pub outside : (x row : ℤ) → IsTrue (holds before.rect x row) → (row ≢ y) ⊎ (x <ℤ rect.x0) ⊎ (rect.x1 ≤ℤ x)
        → tile_byte plane after x row ≡ tile_byte plane before x row
    pub other_planes : (other : Plane) → other ≢ plane → plane_of other after.planes ≡ plane_of other before.planes

  -- new is old, with bytes in row y of its window
  pub record IsWindowWritten (old new : StoreModel R) (window : Window) (plane : Plane) (y : ℤ) (bytes : List ℕ) : Type 0 where
    pub store : IsStore new
    pub same_window : new.window ≡ old.window
    pub same_count : new.opened ≡ old.opened
    pub same_keys : keys_of new.tiles ≡ keys_of old.tiles
    pub others : (key : TileKey) → key ≢ window.key → tile_at key new.tiles ≡ tile_at key old.tiles
    pub tile : (before : Tile R) → tile_at window.key old.tiles ≡ Some before
        → (after : Tile R) × (tile_at window.key new.tiles ≡ Some after) × IsRowWritten before after window.rect plane y bytes

module _ (R : Type 0) where
  abbrev pub TouchKeepsPixels : Type 0
  TouchKeepsPixels = (key : TileKey) (tiles : TileList R) → KeepsPixels tiles (touched key tiles)

  abbrev pub SwapKeepsPixels : Type 0
  SwapKeepsPixels = (key : TileKey) (note : R) (tiles : TileList R) → KeepsPixels tiles (changed_at key (λ tile. record tile { note = note }) tiles)

  abbrev pub PutKeepsPixels : Type 0
  PutKeepsPixels = (key : TileKey) (rect : Bounds) (note : R) (tiles : TileList R) → tile_at key tiles ≡ None
      → KeepsPixels tiles ((key, blank_tile rect note) ∷ tiles)

  abbrev pub RemoveKeepsPixels : Type 0
  RemoveKeepsPixels = (key : TileKey) (tiles : TileList R) → HaveOwnKeys tiles → KeepsPixels tiles (without key tiles)

  abbrev pub PopKeepsPixels : Type 0
  PopKeepsPixels = (budget : ℕ) (tiles : TileList R) → KeepsPixels tiles (popped_over budget tiles)

  -- a row of the window that is written changes its tile there, and nothing else
  abbrev pub WindowRowChangesAlone : Type 0
  WindowRowChangesAlone = (store : StoreModel R) (window : Window) (plane : Plane) (y : ℤ) (bytes : List ℕ) → IsStore store → store.window ≡ Some window
      → HasWindowRow (Some window) y → length bytes ≡ width_of window.rect → IsWindowWritten store (with_window_row plane y bytes store) window plane y bytes
