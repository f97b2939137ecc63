-- What the steps on one tile change.
use Rattle.std.specs.Prelude.{◌≡◌, ℕ, ◌<◌, ◌^◌, List, [], ◌∷◌, ◌++◌, Option, Some, None, option_map, IfSome, All, IsTrue, IsFalse, ℤ, length}
use Rattle.wr_geom.specs.Bounds.{Bounds, holds, area_of, width_of, height_of}
use Rattle.wr_geom.specs.declared.keys.TileKey.{TileKey}
use Rattle.blend_rules.specs.declared.colour.Px.{Px}
use Rattle.span_kernels.specs.PlanesModel.{blank_planes}
use Rattle.image_store.specs.StoreModel.{StoreModel as Resources}
use Rattle.primitives.specs.Facts.{IsEntry}
use Rattle.primitives.specs.Stacks.{balanced, is_shallow, value_at}
use Rattle.primitives.specs.declared.entry.Entry.{Entry}
use Rattle.picture_slices.specs.declared.slice.Slice.{Slice}
use Rattle.tile_grid.specs.Grids.{IsViewPart, IsWithinReach}
use Rattle.tile_grid.specs.Tiles.{tile_rect}
use Rattle.tile_grid.specs.declared.tile.TileSides.{TileSides}
use Rattle.tile_records.specs.Counts.{times}
use Rattle.tile_records.specs.Dirt.{dirt}
use Rattle.tile_records.specs.Interning.{Interning, record_keys}
use Rattle.tile_records.specs.declared.record.TileRecord.{TileRecord}
use Rattle.tile_store.specs.StoreModel.{StoreModel, opened_after}
use Rattle.tile_store.specs.Tiles.{tile_at, without, changed_at, blank_tile}
use Rattle.tile_store.specs.declared.tile.Tile.{Tile}
use Rattle.tile_raster.specs.Windows.{IsRedrawn}
use Rattle.kept_tiles.specs.Tiles.{KeptTile, KeptTiles, KeptModel, colour_of, kept_at, kept_without, kept_of, valued, claims}
use Rattle.kept_tiles.specs.Sound.{IsCurrent}

-- entries that a tile can be drawn from: they are fewer than 2^32, balanced, nest at most 64 groups, and use what is stored now
pub record AreDrawable (store : Resources) (es : List Entry) : Type 0 where
  pub good : All IsEntry es
  pub few : length es < 2 ^ 32
  pub balanced : IsTrue (balanced 0 es)
  pub shallow : IsTrue (is_shallow 64 es)
  pub current : All (IsCurrent store) es

-- each kept tile has the rectangle of its key
abbrev pub ArePlaced : TileSides → KeptTiles → Type 0
ArePlaced sides tiles = (key : TileKey) → IfSome (kept_at key tiles) (λ tile. tile.rect ≡ tile_rect sides key.col key.row)

-- ---- a tile that is reached

-- a new tile of zeros without entries, all of which has to be drawn
pub record IsBlank (tile : KeptTile) (rect part : Bounds) : Type 0 where
  pub tile_is : tile ≡ record { rect = rect; planes = blank_planes (width_of rect) (height_of rect); entries = [] }
  pub part_is : part ≡ rect

-- the tile that was kept, of which the dirt has to be drawn
pub record IsKept (was tile : KeptTile) (entries : List Entry) (rect part : Bounds) : Type 0 where
  pub same : tile ≡ was
  pub part_is : part ≡ dirt was.entries entries rect

abbrev pub ReachedFrom : Option KeptTile → KeptTile → List Entry → Bounds → Bounds → Type 0
ReachedFrom None tile entries rect part = IsBlank tile rect part
ReachedFrom (Some was) tile entries rect part = IsKept was tile entries rect part

-- the tile is the most recent, and part of it has to be drawn
pub record IsReached (m : Interning) (old new : StoreModel TileRecord) (key : TileKey) (rect : Bounds) (entries : List Entry) (part : Bounds) : Type 0 where
  pub tile : Tile TileRecord
  pub first : new ≡ record old { tiles = (key, tile) ∷ without key old.tiles }
  pub from : ReachedFrom (option_map (valued m) (tile_at key old.tiles)) (valued m tile) entries rect part
  pub claimed : (k : ℕ) → times k (claims old.tiles) ≡ times k (record_keys tile.note ++ claims (without key old.tiles))

-- ---- a tile that is drawn

-- a part of a stored tile was drawn, and the tile has another record
pub record IsDrawnAnew (old new : StoreModel TileRecord) (key : TileKey) (tile : Tile TileRecord) (part : Bounds) (note : TileRecord) (f : ℤ → ℤ → Px) : Type 0 where
  pub drawn : Tile TileRecord
  pub redrawn : IsRedrawn tile drawn part f
  pub store : new ≡ record { tiles = changed_at key (λ t. record drawn { note = note }) old.tiles; window = None; opened = opened_after old.opened (area_of part) }

-- a kept tile has in a part of it the colours that f gives, and is else as it was
pub record ShowsIn (before after : KeptTile) (part : Bounds) (f : ℤ → ℤ → Px) : Type 0 where
  pub rect : after.rect ≡ before.rect
  pub inside : (x y : ℤ) → IsTrue (holds part x y) → colour_of after x y ≡ f x y
  pub outside : (x y : ℤ) → IsTrue (holds before.rect x y) → IsFalse (holds part x y) → colour_of after x y ≡ colour_of before x y

-- the tile is the most recent, and shows its entries
pub record IsHeaded (store : Resources) (old new : KeptModel) (key : TileKey) (rect part : Bounds) (entries : List Entry) : Type 0 where
  pub was : KeptTile
  pub tile : KeptTile
  pub from : ReachedFrom (kept_at key (kept_of old)) was entries rect part
  pub shows : ShowsIn was tile part (value_at entries store)
  pub entries_is : tile.entries ≡ entries
  pub kept : kept_of new ≡ (key, tile) ∷ kept_without key (kept_of old)
  pub opened : new.store.opened ≡ opened_after old.store.opened (area_of part)

-- a store with a new tile of zeros, without a record, as the most recent
pub record IsPut (old new : StoreModel TileRecord) (key : TileKey) (rect : Bounds) : Type 0 where
  pub note : TileRecord
  pub none : record_keys note ≡ []
  pub store : new ≡ record old { tiles = (key, blank_tile rect note) ∷ old.tiles }

-- some part of it was drawn
abbrev pub IsShown : Resources → KeptModel → KeptModel → TileKey → Bounds → List Entry → Type 0
IsShown store old new key rect entries = (part : Bounds) × IsHeaded store old new key rect part entries

-- ---- slices

-- a slice whose visible tiles can be shown: it lies in a view, and its entries can be drawn
pub record CanBeShown (store : Resources) (s : Slice) : Type 0 where
  pub shown : IsViewPart s.shown
  pub origin : IsWithinReach s.origin
  pub drawable : AreDrawable store s.entries
