use Rattle.std.proofs.Common.{All, sym, subst}
use Rattle.primitives.specs.Facts.{IsEntry}
use Rattle.tile_raster.specs.Lists.{entries_of, IsEntryList}
use Rattle.tile_raster.specs.declared.list.EntryList.{EntryList}
use Rattle.tile_raster.proofs.Held.{held_facts}
use Rattle.tile_raster.proofs.list.EntryList.know_entries.Goals as goal

pub returns-in-Held : goal.returns-in-Held
returns-in-Held c =
    subst (λ (l : EntryList). All IsEntry (entries_of l)) (sym c.in-Held.is)
    (held_facts c.in-Held.interner.now c.in-Held.ids.now c.know_interner.ensures (subst IsEntryList c.in-Held.is c.requires))
