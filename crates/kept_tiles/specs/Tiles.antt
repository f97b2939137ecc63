-- Kept tiles by value: their records as entries.
use Rattle.std.specs.Prelude.{ℕ, List, [], ◌∷◌, ◌++◌, map, Option, ℤ}
use Rattle.std.specs.Map.{lookup, remove_entry}
use Rattle.wr_geom.specs.Bounds.{Bounds}
use Rattle.wr_geom.specs.declared.keys.TileKey.{TileKey}
use Rattle.blend_rules.specs.declared.colour.Px.{Px}
use Rattle.span_kernels.specs.PlanesModel.{PlanesModel, pixel_at}
use Rattle.primitives.specs.declared.entry.Entry.{Entry}
use Rattle.tile_store.specs.Keys.{same_key}
use Rattle.tile_store.specs.Tiles.{TileList, column_of, row_of}
use Rattle.tile_store.specs.StoreModel.{StoreModel}
use Rattle.tile_store.specs.declared.tile.Tile.{Tile}
use Rattle.tile_records.specs.Interning.{Interning, entries_under, record_keys}
use Rattle.tile_records.specs.declared.record.TileRecord.{TileRecord}

-- a kept tile: where it lies in its slice, its pixels, and the entries from which it was drawn
pub record KeptTile : Type 0 where
  pub rect : Bounds
  pub planes : PlanesModel
  pub entries : List Entry

-- kept tiles with their keys, the most recent first
abbrev pub KeptTiles : Type 0
KeptTiles = List (TileKey × KeptTile)

-- the colour of a kept tile at a point of its slice's coordinates
abbrev pub colour_of : KeptTile → ℤ → ℤ → Px
colour_of t x y = pixel_at t.planes (column_of t.rect x) (row_of t.rect y)

-- the kept tile at a key
abbrev pub kept_at : TileKey → KeptTiles → Option KeptTile
kept_at key tiles = lookup (same_key key) tiles

-- without the tile at a key
abbrev pub kept_without : TileKey → KeptTiles → KeptTiles
kept_without key tiles = remove_entry (same_key key) tiles

-- ---- what is stored of them: records of ids in a store of tiles, and what the ids stand for

abbrev pub entries_in : Interning → Tile TileRecord → List Entry
entries_in m tile = entries_under m (record_keys tile.note)

-- a tile with its record by value
abbrev pub valued : Interning → Tile TileRecord → KeptTile
valued m tile = record { rect = tile.rect; planes = tile.planes; entries = entries_in m tile }

abbrev pub all_valued : Interning → TileList TileRecord → KeptTiles
all_valued m tiles = map (λ e. (e.0, valued m e.1)) tiles

-- each id as often as a record of a tile names it
abbrev pub claims : TileList TileRecord → List ℕ
claims [] = []
claims (e ∷ es) = record_keys e.1.note ++ claims es

-- what contracts see of kept tiles: the ids' entries, and the store of tiles
pub record KeptModel : Type 0 where
  pub interner : Interning
  pub store : StoreModel TileRecord

abbrev pub kept_of : KeptModel → KeptTiles
kept_of k = all_valued k.interner k.store.tiles

abbrev pub kept_with : Interning → StoreModel TileRecord → KeptModel
kept_with m store = record { interner = m; store = store }
