-- A store of tiles after a rectangle of one of them was drawn.
use Rattle.std.specs.Prelude.{◌≡◌, ℕ, ℤ, pos, ◌+ℤ◌, IsTrue, IsFalse, take, Some, None}
use Rattle.wr_geom.specs.Bounds.{Bounds, holds, area_of}
use Rattle.blend_rules.specs.Planes.{channel}
use Rattle.blend_rules.specs.declared.colour.Px.{Px}
use Rattle.blend_rules.specs.declared.plane.Plane.{Plane}
use Rattle.blend_rules.specs.declared.plane.Plane.TheVariants.{B, G, R, A}
use Rattle.tile_store.specs.declared.tile.Tile.{Tile}
use Rattle.tile_store.specs.declared.window.Window.{Window}
use Rattle.tile_store.specs.Tiles.{IsTile, tile_at, tile_byte, changed_at}
use Rattle.tile_store.specs.StoreModel.{StoreModel, opened_after}
use Rattle.tile_store.specs.Windows.{with_window_row}
use Rattle.tile_raster.specs.Rows.{LineModel}

-- the first rows of a rectangle
abbrev pub first_rows : Bounds → ℕ → Bounds
first_rows rect count = record rect { y1 = rect.y0 +ℤ pos count }

module _ {N : Type 0} where
  -- a tile has at each point of a rectangle the colour that f gives, and is else as it was
  pub record IsRedrawn (before after : Tile N) (rect : Bounds) (f : ℤ → ℤ → Px) : Type 0 where
    pub same_rect : after.rect ≡ before.rect
    pub same_note : after.note ≡ before.note
    pub inside : (plane : Plane) (x y : ℤ) → IsTrue (holds rect x y) → tile_byte plane after x y ≡ channel plane (f x y)
    pub outside : (plane : Plane) (x y : ℤ) → IsTrue (holds before.rect x y) → IsFalse (holds rect x y)
        → tile_byte plane after x y ≡ tile_byte plane before x y

  -- a rectangle of the tile at a key was drawn through one window, and nothing else has changed
  pub record IsWindowDrawn (old new : StoreModel N) (window : Window) (f : ℤ → ℤ → Px) : Type 0 where
    pub change : Tile N → Tile N
    pub tile : (before : Tile N) → tile_at window.key old.tiles ≡ Some before → IsRedrawn before (change before) window.rect f
    pub store : new ≡ record { tiles = changed_at window.key change old.tiles; window = None; opened = opened_after old.opened (area_of window.rect) }

  -- a store with the first pixels of a row in row y of its window
  abbrev pub with_window_line : ℤ → ℕ → LineModel → StoreModel N → StoreModel N
  with_window_line y count row store =
      with_window_row A y (take count row.alpha)
      (with_window_row R y (take count row.red)
      (with_window_row G y (take count row.green)
      (with_window_row B y (take count row.blue) store)))

  -- the first rows of the open window are drawn
  pub record IsWindowDrawnTo (old now : StoreModel N) (window : Window) (rows : ℕ) (f : ℤ → ℤ → Px) : Type 0 where
    pub change : Tile N → Tile N
    pub tile : (before : Tile N) → tile_at window.key old.tiles ≡ Some before → IsRedrawn before (change before) (first_rows window.rect rows) f
    pub whole : (before : Tile N) → tile_at window.key old.tiles ≡ Some before → IsTile before → IsTile (change before)
    pub store : now ≡ record old { tiles = changed_at window.key change old.tiles }
