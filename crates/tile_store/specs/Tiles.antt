-- Kept tiles, and the list that keeps them.
use Rattle.std.specs.Prelude.{◌≡◌, ℕ, ◌≤◌, ◌-◌, cond, ltb, List, [], ◌∷◌, length, take, Option, Some, None, option_map, ℤ, ◌-ℤ◌, ◌≤ℤ◌, ◌<ℤ◌, unsigned_abs, if◌then◌else◌}
use Rattle.std.specs.Option.{option_map_or}
use Rattle.std.specs.Map.{lookup, remove_entry}
use Rattle.lru.specs.LruCache.{last_entry}
use Rattle.blend_rules.specs.declared.plane.Plane.{Plane}
use Rattle.span_kernels.specs.PlanesModel.{part_of, byte_at, blank_planes, IsWhole}
use Rattle.wr_geom.specs.Bounds.{Bounds, IsRect, width_of, height_of}
use Rattle.wr_geom.specs.declared.keys.TileKey.{TileKey}
use Rattle.tile_store.specs.declared.limits.TheConstants.{MAX_TILE_SIDE}
use Rattle.tile_store.specs.declared.tile.Tile.{Tile}
use Rattle.tile_store.specs.Keys.{same_key}

-- ---- rectangles

-- both sides are from 1 to `MAX_TILE_SIDE` pixels long, 1,024
pub record HasTileSides (rect : Bounds) : Type 0 where
  pub some_across : 1 ≤ width_of rect
  pub across : width_of rect ≤ MAX_TILE_SIDE
  pub some_down : 1 ≤ height_of rect
  pub down : height_of rect ≤ MAX_TILE_SIDE

-- y is the coordinate of one of its rows
pub record HasRow (rect : Bounds) (y : ℤ) : Type 0 where
  pub top : rect.y0 ≤ℤ y
  pub bottom : y <ℤ rect.y1

-- how many columns of it lie before the coordinate x
abbrev pub column_of : Bounds → ℤ → ℕ
column_of rect x = unsigned_abs (x -ℤ rect.x0)

-- how many rows of it lie above the coordinate y
abbrev pub row_of : Bounds → ℤ → ℕ
row_of rect y = unsigned_abs (y -ℤ rect.y0)

-- tiles with their keys, the most recent first
abbrev pub TileList : Type 0 → Type 0
TileList R = List (TileKey × Tile R)

-- ---- one tile

module _ {R : Type 0} where
  -- its sides are those of a tile, and its planes have them
  pub record IsTile (tile : Tile R) : Type 0 where
    pub rect : IsRect tile.rect
    pub sides : HasTileSides tile.rect
    pub width : tile.planes.width ≡ width_of tile.rect
    pub height : tile.planes.height ≡ height_of tile.rect
    pub whole : IsWhole tile.planes

  -- a new tile, all of whose bytes are 0
  abbrev pub blank_tile : Bounds → R → Tile R
  blank_tile rect note = record { rect = rect; planes = blank_planes (width_of rect) (height_of rect); note = note }

  -- the bytes of one plane in the row at the coordinate y
  abbrev pub tile_row : Plane → ℤ → Tile R → List ℕ
  tile_row plane y tile = part_of plane tile.planes (row_of tile.rect y) 0 (width_of tile.rect)

  -- the byte of one plane at a point
  abbrev pub tile_byte : Plane → Tile R → ℤ → ℤ → ℕ
  tile_byte plane tile x y = byte_at plane tile.planes (column_of tile.rect x) (row_of tile.rect y)

  -- if there is a tile, y is the coordinate of one of its rows
  abbrev pub HasRowWhereKept : Option (Tile R) → ℤ → Type 0
  HasRowWhereKept None y = Unit {0}
  HasRowWhereKept (Some tile) y = HasRow tile.rect y

  -- ---- the list of kept tiles

  -- the tile at a key, if it is kept
  abbrev pub tile_at : TileKey → TileList R → Option (Tile R)
  tile_at key tiles = lookup (same_key key) tiles

  -- without the tile at a key
  abbrev pub without : TileKey → TileList R → TileList R
  without key tiles = remove_entry (same_key key) tiles

  -- with the tile at a key before all others, if it is kept
  abbrev pub touched : TileKey → TileList R → TileList R
  touched key tiles = option_map_or (λ tile. (key, tile) ∷ without key tiles) (tile_at key tiles) tiles

  -- with the tile at a key changed, if it is kept
  abbrev pub changed_at : TileKey → (Tile R → Tile R) → TileList R → TileList R
  changed_at key change [] = []
  changed_at key change (e ∷ es) = cond (same_key key e.0) ((e.0, change e.1) ∷ es) (e ∷ changed_at key change es)

  -- without the least recent tile, where there are more than a number of them
  abbrev pub popped_over : ℕ → TileList R → TileList R
  popped_over budget tiles = if ltb budget (length tiles) then take (length tiles - 1) tiles else tiles

  -- the key and the note of that tile
  abbrev pub least_recent_over : ℕ → TileList R → Option (TileKey × R)
  least_recent_over budget tiles = if ltb budget (length tiles) then option_map (λ e. (e.0, e.1.note)) (last_entry tiles) else None

  -- each of them is a tile
  abbrev pub AreTiles : TileList R → Type 0
  AreTiles [] = Unit {0}
  AreTiles (e ∷ es) = IsTile e.1 × AreTiles es
