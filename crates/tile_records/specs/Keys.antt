-- The key of each entry, and how it is tied to what is held.
use Rattle.std.specs.Prelude.{◌≡◌, ℕ, Some}
use Rattle.std.specs.declared.cmp.Ordering.{Ordering}
use Rattle.std.specs.FinMap as map
use Rattle.std.specs.Coded.{Coded, coded_ℕ}
use Rattle.primitives.specs.Facts.{IsEntry}
use Rattle.primitives.specs.contracts.entry.Entry as an_entry
use Rattle.primitives.specs.contracts.entry.EntryOrd.TheImpl as by_order
use Rattle.primitives.specs.declared.entry.Entry.{Entry}
use Rattle.tile_records.specs.Interning.{Interning, entry_at}

-- the order of entries
abbrev pub entry_cmp : Entry → Entry → Ordering
entry_cmp = (by_order.ghosts).cmp

-- the key of each entry that has one
abbrev pub KeyMap : Type 0
KeyMap = map.FinMap entry_cmp ℕ

abbrev pub key_map_code : Coded KeyMap
key_map_code = map.code an_entry.the_row.coded coded_ℕ

-- each entry that has a key is held under it, and each that is held has its key, and is what every entry is
pub record IsTied (keys : KeyMap) (slots : Interning) : Type 0 where
  pub known : (e : Entry) (k : ℕ) → map.get keys e ≡ Some k → entry_at slots k ≡ Some e
  pub listed : (k : ℕ) (e : Entry) → entry_at slots k ≡ Some e → map.get keys e ≡ Some k
  pub entries : (k : ℕ) (e : Entry) → entry_at slots k ≡ Some e → IsEntry e
