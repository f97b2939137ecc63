-- What a frame does to the list of kept tiles, and what it costs.
use Rattle.std.specs.Prelude.{◌≡◌, ℕ, ◌+◌, List, [], ◌∷◌, ◌++◌, Option, Some, None, map, take}
use Rattle.std.specs.Map.{lookup, remove_entry}
use Rattle.wr_geom.specs.Bounds.{Bounds, area_of}
use Rattle.wr_geom.specs.declared.keys.SliceKey.{SliceKey}
use Rattle.wr_geom.specs.declared.keys.TileKey.{TileKey}
use Rattle.primitives.specs.declared.entry.Entry.{Entry}
use Rattle.tile_grid.specs.Grids.{grid_over, in_slice, tiles_of}
use Rattle.tile_grid.specs.declared.tile.GridTile.{GridTile}
use Rattle.tile_grid.specs.declared.tile.TileSides.{TileSides}
use Rattle.tile_records.specs.Dirt.{dirt}
use Rattle.tile_records.specs.Picks.{picked}
use Rattle.tile_store.specs.Keys.{same_key}
use Rattle.tile_store.specs.StoreModel.{opened_after}
use Rattle.picture_slices.specs.declared.slice.Slice.{Slice}
use Rattle.kept_tiles.specs.Tiles.{KeptTiles, KeptModel, kept_of}

-- a tile that a frame shows: where it lies, and the record of what it is to show
pub record Shown : Type 0 where
  pub key : TileKey
  pub rect : Bounds
  pub entries : List Entry

-- the keys and records of kept tiles, the most recent first
abbrev pub Records : Type 0
Records = List (TileKey × List Entry)

abbrev pub records_of : KeptTiles → Records
records_of tiles = map (λ e. (e.0, e.1.entries)) tiles

-- what is kept after some work, and how many pixels the work opened
pub record Work : Type 0 where
  pub kept : Records
  pub cost : ℕ

-- where a tile has to be drawn: all of one that isn't kept, and the dirt of one that is
abbrev pub stale_part : Option (List Entry) → List Entry → Bounds → Bounds
stale_part None new rect = rect
stale_part (Some old) new rect = dirt old new rect

-- how many pixels have to be drawn of a tile that has something to show
abbrev pub stale_area : Records → TileKey → Bounds → List Entry → ℕ
stale_area kept key rect entries = area_of (stale_part (lookup (same_key key) kept) entries rect)

abbrev pub work_at : Records → TileKey → Bounds → List Entry → Work
work_at kept key rect [] = record { kept = remove_entry (same_key key) kept; cost = 0 }
work_at kept key rect (e ∷ es) = record {
  kept = (key, e ∷ es) ∷ remove_entry (same_key key) kept;
  cost = stale_area kept key rect (e ∷ es);
}

-- the work on one tile: one with nothing to show is kept no longer, another is kept with its record as the most recent
abbrev pub tile_work : Records → Shown → Work
tile_work kept v = work_at kept v.key v.rect v.entries

abbrev pub then_work : Work → Work → Work
then_work first rest = record { kept = rest.kept; cost = first.cost + rest.cost }

-- the work on some tiles, one after another
abbrev pub tiles_work : Records → List Shown → Work
tiles_work kept [] = record { kept = kept; cost = 0 }
tiles_work kept (v ∷ vs) = then_work (tile_work kept v) (tiles_work (tile_work kept v).kept vs)

-- a frame's work: that on its tiles, and then only as many as the budget allows are kept
abbrev pub frame_work : Records → List Shown → ℕ → Work
frame_work kept shown budget = record (tiles_work kept shown) { kept = take budget (tiles_work kept shown).kept }

-- ---- the tiles of slices

-- the key of a tile of a slice
abbrev pub key_of : SliceKey → GridTile → TileKey
key_of slice t = record { slice = slice; col = t.col; row = t.row }

-- a tile of a slice, and what of the slice's entries matters in it
abbrev pub shown_tile : Slice → GridTile → Shown
shown_tile s t = record { key = key_of s.key t; rect = t.rect; entries = picked t.rect s.entries }

abbrev pub shown_tiles : Slice → List GridTile → List Shown
shown_tiles s tiles = map (shown_tile s) tiles

-- the visible tiles of a slice, by row and then by column
abbrev pub slice_tiles : TileSides → Slice → List Shown
slice_tiles sides s = shown_tiles s (tiles_of (grid_over sides (in_slice s.shown s.origin)))

-- those of all slices, back to front
abbrev pub frame_tiles : TileSides → List Slice → List Shown
frame_tiles sides [] = []
frame_tiles sides (s ∷ ss) = slice_tiles sides s ++ frame_tiles sides ss

-- ---- work that is done

-- the work on these tiles, over what is kept
abbrev pub work_on : KeptModel → List Shown → Work
work_on k shown = tiles_work (records_of (kept_of k)) shown

-- the records are those that the work leaves, and the count has risen by its cost
pub record IsWorkDone (old new : KeptModel) (w : Work) : Type 0 where
  pub kept : records_of (kept_of new) ≡ w.kept
  pub opened : new.store.opened ≡ opened_after old.store.opened w.cost
