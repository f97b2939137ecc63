-- What making records leaves, step by step.
use Rattle.std.specs.Prelude.{◌≡◌, ℕ, zero, suc, ◌*◌, ◌/◌, ◌%◌, ◌<◌, List, [], ◌∷◌, ◌++◌, length, get_or, map as each, Option, Some, None}
use Rattle.std.specs.FinMap as map
use Rattle.primitives.specs.declared.entry.Entry.{Entry}
use Rattle.tile_records.specs.declared.id.Id.{Id}
use Rattle.tile_records.specs.declared.interner.Found.{Found}
use Rattle.tile_records.specs.declared.interner.Found.TheVariants as found
use Rattle.tile_records.specs.declared.slots.Held.{Held}
use Rattle.tile_records.specs.declared.tiles.Tiles.{Tiles}
use Rattle.tile_records.specs.Interning.{Interning, entry_at}
use Rattle.tile_records.specs.Counts.{times}
use Rattle.tile_records.specs.Picks.{picked}
use Rattle.tile_records.specs.Tiles.{columns_of, rows_of, rect_at}

-- an entry that is held no times so far
abbrev pub unused : Entry → Held
unused e = record { entry = e; count = 0 }

-- an entry's id: an old one, or a new one that is held no times
abbrev pub IsFound : Interning → Interning → Found → Entry → Type 0
IsFound old new (found.Old id) e = (entry_at old id.key ≡ Some e) × (new ≡ old)
IsFound old new (found.New id) e = (map.get old id.key ≡ None) × (new ≡ map.insert old id.key (unused e))

-- a new id is noted
abbrev pub NotesFound : Interning → Interning → Found → List Id → List Id → Id → Type 0
NotesFound old new (found.Old id) added more noted = (new ≡ old) × (more ≡ added) × (noted ≡ id)
NotesFound old new (found.New id) added more noted = (new ≡ old) × (more ≡ added ++ (id ∷ [])) × (noted ≡ id)

-- or given up
abbrev pub ForgetsFound : Interning → Interning → Found → List Id → List Id → Type 0
ForgetsFound old new (found.Old id) added more = (new ≡ old) × (more ≡ added)
ForgetsFound old new (found.New id) added more = (new ≡ map.remove old id.key) × (more ≡ added)

-- what an id has, where it is one of n that were added, each of which is held no times
abbrev pub IsGrownSlot : ℕ → Option Held → Option Held → Type 0
IsGrownSlot zero old new = new ≡ old
IsGrownSlot (suc n) old new = (old ≡ None) × ((e : Entry) × (new ≡ Some (unused e)))

-- these ids were added, and no other changed
abbrev pub IsGrown : Interning → Interning → List ℕ → Type 0
IsGrown old new added = (k : ℕ) → IsGrownSlot (times k added) (map.get old k) (map.get new k)

-- what is held stays held, with its entry
abbrev pub Extends : Interning → Interning → Type 0
Extends old new = (k : ℕ) (e : Entry) → entry_at old k ≡ Some e → entry_at new k ≡ Some e

-- one entry more has its id at the end
pub record InternsNext (old new : Interning) (ids more : List Id) (e : Entry) : Type 0 where
  pub id : Id
  pub noted : more ≡ ids ++ (id ∷ [])
  pub stands : entry_at new id.key ≡ Some e
  pub extends : Extends old new

-- ids stand for entries
abbrev pub AreInterned : Interning → List ℕ → List Entry → Type 0
AreInterned m ids es = each (entry_at m) ids ≡ each (λ e. Some e) es

-- the ids of each tile stand for what is picked of the entries there
pub record AreRecordsOf (m : Interning) (tiles : Tiles) (records : List (List ℕ)) (es : List Entry) : Type 0 where
  pub count : length records ≡ rows_of tiles * columns_of tiles
  pub entries : (i : ℕ) → i < rows_of tiles * columns_of tiles → AreInterned m (get_or records i []) (picked (rect_at tiles (i % columns_of tiles) (i / columns_of tiles)) es)
