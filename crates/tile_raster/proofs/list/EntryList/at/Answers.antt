use Rattle.std.proofs.Common.{◌≡◌, length, get_or, Some, sym, ap, subst, ◌∙◌, arith}
use Rattle.std.specs.Option.{option_copied}
use Rattle.tile_records.specs.Interning.{entry_at}
use Rattle.tile_raster.specs.Lists.{entries_of, IsEntryList}
use Rattle.tile_raster.specs.declared.list.EntryList.{EntryList}
use Rattle.tile_raster.proofs.Held.{held_count, held_at, held_some, copied_some}
use Rattle.tile_raster.proofs.list.EntryList.at.Goals as goal

pub id_at-requires : goal.id_at-requires
id_at-requires c =
    let same = ap (λ (l : EntryList). length (entries_of l)) c.in-Held.is ∙ held_count c.in-Held.interner.now c.in-Held.ids.now (subst IsEntryList c.in-Held.is c.requires.list) in
    omega (arith, same, c.requires.inside)

pub unwrap-requires : goal.unwrap-requires
unwrap-requires c =
    let held = subst IsEntryList c.in-Held.is c.requires.list in
    let same = ap (λ (l : EntryList). length (entries_of l)) c.in-Held.is ∙ held_count c.in-Held.interner.now c.in-Held.ids.now held in
    let some = held_some c.in-Held.interner.now c.in-Held.ids.now c.args.i c.id_at.result held (omega (arith, same, c.requires.inside)) (c.id_at.ensures c.id_at.result) in
    copied_some c.get.result some.0 (c.get.ensures ∙ some.1)

pub returns-in-Held : goal.returns-in-Held
returns-in-Held c other =
    let held = subst IsEntryList c.in-Held.is c.requires.list in
    let same = ap (λ (l : EntryList). length (entries_of l)) c.in-Held.is ∙ held_count c.in-Held.interner.now c.in-Held.ids.now held in
    let is : entry_at c.in-Held.interner.now c.id_at.result.key ≡ Some c.unwrap.result.now = sym c.get.ensures ∙ ap option_copied c.unwrap.ensures in
    let own = held_at c.in-Held.interner.now c.in-Held.ids.now c.args.i c.id_at.result c.unwrap.result.now other held (omega (arith, same, c.requires.inside)) (c.id_at.ensures c.id_at.result) is in
    sym (ap (λ (l : EntryList). get_or (entries_of l) c.args.i other) c.in-Held.is ∙ own)
