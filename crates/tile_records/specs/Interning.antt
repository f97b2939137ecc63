-- Entries under ids, and how often each is held.
use Rattle.std.specs.Prelude.{◌≡◌, ℕ, List, map as each, filter_map, All, Option, Some, None, IsSome}
use Rattle.std.specs.Ordering.{nat_cmp}
use Rattle.std.specs.FinMap as map
use Rattle.std.specs.Coded.{Coded, coded_ℕ}
use Rattle.primitives.specs.Facts.{IsEntry}
use Rattle.primitives.specs.declared.entry.Entry.{Entry}
use Rattle.tile_records.specs.declared.id.Id.{Id}
use Rattle.tile_records.specs.declared.record.TileRecord.{TileRecord}
use Rattle.tile_records.specs.declared.slots.Held.{Held}
use Rattle.tile_records.specs.contracts.slots.Held as a_held

-- what each id has: an entry, and how often it is held
abbrev pub Interning : Type 0
Interning = map.FinMap nat_cmp Held

abbrev pub interning_code : Coded Interning
interning_code = map.code coded_ℕ a_held.the_row.coded

abbrev pub entry_of : Option Held → Option Entry
entry_of None = None
entry_of (Some held) = Some held.entry

abbrev pub count_of : Option Held → ℕ
count_of None = 0
count_of (Some held) = held.count

-- the entry of an id, if it is held
abbrev pub entry_at : Interning → ℕ → Option Entry
entry_at m k = entry_of (map.get m k)

-- how often an id is held
abbrev pub count_at : Interning → ℕ → ℕ
count_at m k = count_of (map.get m k)

-- each of these ids is held
abbrev pub AreHeld : Interning → List ℕ → Type 0
AreHeld m ks = All (λ k. IsSome (map.get m k)) ks

-- the entries of ids, in order; an id that isn't held has none
abbrev pub entries_under : Interning → List ℕ → List Entry
entries_under m ks = filter_map (entry_at m) ks

-- ids by their keys
abbrev pub ids_keys : List Id → List ℕ
ids_keys ids = each (λ i. i.key) ids

abbrev pub record_keys : TileRecord → List ℕ
record_keys r = ids_keys r.ids.items

-- an entry has one id
abbrev pub IsDistinct : Interning → Type 0
IsDistinct m = (i j : ℕ) (e : Entry) → entry_at m i ≡ Some e → entry_at m j ≡ Some e → i ≡ j

-- what holds of all that is held: each entry has one id, and is what every entry is
pub record IsInterning (m : Interning) : Type 0 where
  pub distinct : IsDistinct m
  pub entries : (k : ℕ) (e : Entry) → entry_at m k ≡ Some e → IsEntry e
