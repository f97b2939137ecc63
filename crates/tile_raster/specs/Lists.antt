-- Lists of entries: a slice of them, or those that ids stand for.
use Rattle.std.specs.Prelude.{List}
use Rattle.primitives.specs.declared.entry.Entry.{Entry}
use Rattle.tile_records.specs.Interning.{AreHeld, entries_under, ids_keys}
use Rattle.tile_raster.specs.declared.list.EntryList.{EntryList}
use Rattle.tile_raster.specs.declared.list.EntryList.TheVariants as list

-- the entries of a list, in order
abbrev pub entries_of : EntryList → List Entry
entries_of (list.All entries) = entries.now
entries_of (list.Held interner ids) = entries_under interner.now (ids_keys ids.now)

-- each id is held
abbrev pub IsEntryList : EntryList → Type 0
IsEntryList (list.All entries) = Unit {0}
IsEntryList (list.Held interner ids) = AreHeld interner.now (ids_keys ids.now)
