use Rattle.std.proofs.Common.{List, ap, ◌∙◌}
use Rattle.tile_records.specs.declared.id.Id.{Id}
use Rattle.tile_records.specs.declared.record.TileRecord.{TileRecord}
use Rattle.tile_records.specs.Interning.{ids_keys}
use Rattle.tile_records.specs.Counts.{raised_records, swept_all, removed_all}
use Rattle.tile_records.specs.Passing.{keys_of_records}
use Rattle.tile_records.proofs.Counting.{forgotten}
use Rattle.tile_records.proofs.Interns.{made}
use Rattle.tile_records.proofs.making.make.Goals as goal

pub returns-in-Ok : goal.returns-in-Ok
returns-in-Ok c =
    let h = made c.args.tiles.now c.args.entries.now c.args.interner.now c.fill.new.interner c.raise_all.new.interner c.sweep_all.new.interner (ids_keys c.fill.new.added.items) (keys_of_records c.in-Ok.records.items)
    c.in-Ok.ensures.grown c.in-Ok.ensures.ok
    (c.raise_all.ensures ∙ ap (λ (l : List TileRecord). raised_records c.fill.new.interner (keys_of_records l)) c.as_slice.ensures.value)
    (c.sweep_all.ensures ∙ ap (λ (l : List Id). swept_all c.raise_all.new.interner (ids_keys l)) c.as_slice-in-Ok.ensures.value) in
    record { ok = h.records; counts = h.counts; err = tt }

pub returns-clause-err : goal.returns-clause-err
returns-clause-err c =
    c.forget_all.ensures ∙ ap (λ (l : List Id). removed_all c.fill.new.interner (ids_keys l)) c.as_slice-in-Err.ensures.value
    ∙ forgotten c.args.interner.now c.fill.new.interner (ids_keys c.fill.new.added.items) c.in-Err.ensures.grown
