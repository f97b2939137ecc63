use Rattle.std.proofs.Common.{length, sym, ap, subst, ◌∙◌}
use Rattle.tile_raster.specs.Lists.{entries_of, IsEntryList}
use Rattle.tile_raster.specs.declared.list.EntryList.{EntryList}
use Rattle.tile_raster.proofs.Held.{held_count}
use Rattle.tile_raster.proofs.list.EntryList.len.Goals as goal

pub returns-in-Held : goal.returns-in-Held
returns-in-Held c =
    sym (ap (λ (l : EntryList). length (entries_of l)) c.in-Held.is ∙ held_count c.in-Held.interner.now c.in-Held.ids.now (subst IsEntryList c.in-Held.is c.requires))
