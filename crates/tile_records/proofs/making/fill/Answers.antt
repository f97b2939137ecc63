use Rattle.std.proofs.Common.{List, ap, subst, sym, ◌∙◌, length}
use Rattle.std.proofs.lemmas.List.{length-map}
use Rattle.tile_records.specs.declared.id.Id.{Id}
use Rattle.tile_records.specs.Interning.{ids_keys}
use Rattle.tile_records.specs.Making.{AreInterned}
use Rattle.tile_records.specs.Passing.{keys_of_records}
use Rattle.tile_records.proofs.Interns.{interned_length, records_from}
use Rattle.tile_records.proofs.making.fill.Goals as goal

pub picked_by_tile-requires-clause-ids : goal.picked_by_tile-requires-clause-ids
picked_by_tile-requires-clause-ids c =
    ap (λ (l : List Id). length l) c.as_slice.ensures.value ∙ sym (length-map c.intern_all.new.ids.items (λ (i : Id). i.key))
    ∙ interned_length c.intern_all.new.interner (ids_keys c.intern_all.new.ids.items) c.args.entries.now c.in_ok-intern_all.ensures.ok

pub returns-clause-ok : goal.returns-clause-ok
returns-clause-ok c =
    records_from c.args.tiles.now c.args.entries.now c.intern_all.new.interner (ids_keys c.as_slice.result.now) (keys_of_records c.in_ok-picked_by_tile.field-0.items)
    (subst (λ (l : List Id). AreInterned c.intern_all.new.interner (ids_keys l) c.args.entries.now) (sym c.as_slice.ensures.value) c.in_ok-intern_all.ensures.ok)
    c.in_ok-picked_by_tile.ensures.count c.in_ok-picked_by_tile.ensures.picked
