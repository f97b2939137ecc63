use Rattle.std.proofs.Common.{List, ap, subst, sym, refl, ◌∙◌, take, ◌++◌, ◌∷◌, []}
use Rattle.std.proofs.lemmas.List.{take_more}
use Rattle.primitives.specs.declared.entry.Entry.{Entry}
use Rattle.tile_records.specs.declared.id.Id.{Id}
use Rattle.tile_records.specs.Interning.{ids_keys}
use Rattle.tile_records.specs.Making.{AreInterned, IsGrown}
use Rattle.tile_records.proofs.Acquiring.{grown_none}
use Rattle.tile_records.proofs.Interns.{interned_more}
use Rattle.tile_records.proofs.making.intern_all.Goals as goal

pub loop-entry-init : goal.loop-entry-init
loop-entry-init c = record {
  stand = subst (λ (l : List Id). AreInterned c.args.interner.now (ids_keys l) []) (sym c.requires.ids) refl;
  grown = subst (λ (l : List Id). IsGrown c.args.interner.now c.args.interner.now (ids_keys l)) (sym c.requires.added) (grown_none c.args.interner.now);
}

pub loop-entry-preserved : goal.loop-entry-preserved
loop-entry-preserved c =
    let done = take c.loop-entry.entry-index c.args.entries.now in
    let n = c.in_ok-intern_next.ensures.ok in
    let next = take_more c.args.entries.now c.loop-entry.entry-index c.entry-item.result c.loop-entry-test.true ∙ ap (λ (x : Entry). done ++ x ∷ []) (sym c.entry-item.is) in
    record {
      stand = subst (AreInterned c.intern_next.new.interner (ids_keys c.intern_next.new.ids.items)) (sym next)
          (interned_more c.loop-entry.interner c.intern_next.new.interner c.loop-entry.ids.items c.intern_next.new.ids.items n.id done c.entry-item.result c.loop-entry.invariant.stand n.noted n.stands n.extends);
      grown = c.in_ok-intern_next.ensures.grown c.args.interner.now c.loop-entry.invariant.grown;
    }

pub returns-in_err-intern_next-clause-grown : goal.returns-in_err-intern_next-clause-grown
returns-in_err-intern_next-clause-grown c = c.in_err-intern_next.ensures.grown c.args.interner.now c.loop-entry.invariant.grown
