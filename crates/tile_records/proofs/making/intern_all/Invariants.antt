use Rattle.std.proofs.Common.{take}
use Rattle.tile_records.specs.Interning.{ids_keys}
use Rattle.tile_records.specs.Making.{AreInterned, IsGrown}
use Rattle.tile_records.proofs.making.intern_all.Given as goal

-- the entries so far have their ids, and what was added is noted
abbrev pub invariant-loop-entry : goal.invariant-loop-entry
invariant-loop-entry l = record {
  stand : AreInterned l.interner (ids_keys l.ids.items) (take l.entry-index l.entries);
  grown : IsGrown l.fn.interner l.interner (ids_keys l.added.items);
}
