use Rattle.std.proofs.Common.{List, [], ◌∷◌, ◌++◌, ap, sym, subst, ◌≡◌, ◌∙◌}
use Rattle.std.specs.Prelude.{All}
use Rattle.std.proofs.lemmas.List.{nil_from_length}
use Rattle.std.proofs.lemmas.List.Elements.{All-nil}
use Rattle.primitives.specs.declared.entry.Entry.{Entry}
use Rattle.primitives.specs.Facts.{IsEntry}
use Rattle.primitives.specs.Moves.{shifted_entries}
use Rattle.primitives.specs.Tops.{IsCloseEntry}
use Rattle.picture_slices.proofs.Moving.{begun, moved_one, moved_all, moved_none, rest_close, first_close, next_good}
use Rattle.picture_slices.proofs.entries.add_top.Goals.{in-Some+in_ok-push, in_default}
use Rattle.picture_slices.proofs.entries.add_top.Goals as goal

pub first_moved-requires-clause-close : goal.first_moved-requires-clause-close
first_moved-requires-clause-close c =
    let whole = c.into_iter-own.ensures.rest ∙ c.into_vec.ensures in
    first_close c.args.top.entries c.next.new.self.rest.items c.in-Some.first (sym whole ∙ c.in-Some.ensures.items) c.requires.top.close

pub loop-entry-init : goal.loop-entry-init
loop-entry-init c =
    let whole = c.into_iter-own.ensures.rest ∙ c.into_vec.ensures in
    let all = c.args.top.entries in
    let rest = c.into_iter-entry-iterator.result.rest.items in
    let same : rest ≡ c.next.new.self.rest.items = ap (λ i. i.rest.items) c.into_iter-entry-iterator.ensures.into_iter_gives in
    elim c.match-next.branch [
      | in-Some+in_ok-push w ↦
          let parts = sym whole ∙ w.in-Some.ensures.items ∙ ap (λ (xs : List Entry). w.in-Some.first ∷ xs) (sym same) in
          let put = ap (λ v. v.items) w.entries-is ∙ w.in_ok-push.ensures.items in
          record {
            value =
                begun c.args.entries.now.items c.match-next.entries.items all rest w.in-Some.first w.first_moved.result c.args.skip c.args.by parts w.first_moved.ensures.value put;
            close = rest_close all rest w.in-Some.first parts c.requires.top.close;
            good = λ others. next_good all rest w.in-Some.first parts w.first_moved.ensures.good others;
          }
      | in_default w ↦
          let left = nil_from_length c.into_iter-own.result.rest.items (sym c.into_iter-own.result.rest.ok.0 ∙ w.in_default.ensures.cases.0) in
          let none : all ≡ [] = sym whole ∙ left in
          let also : rest ≡ [] = same ∙ sym w.in_default.ensures.items ∙ left in
          record {
            value =
                ap (λ (xs : List Entry). xs ++ shifted_entries rest c.args.by) (ap (λ v. v.items) w.entries-is) ∙ moved_none c.args.entries.now.items all rest c.args.skip c.args.by none also;
            close = subst (All IsCloseEntry) (sym also) (All-nil IsCloseEntry);
            good = λ others. subst (All IsEntry) (sym none) (All-nil IsEntry);
          }
    ]

pub moved-requires-clause-close : goal.moved-requires-clause-close
moved-requires-clause-close c =
    first_close c.loop-entry.entry-iterator.rest.items c.next-in-loop-entry.new.self.rest.items c.in-Some-entry.entry c.in-Some-entry.ensures.steps.0 c.loop-entry.invariant.close

pub loop-entry-preserved : goal.loop-entry-preserved
loop-entry-preserved c =
    let left = c.loop-entry.entry-iterator.rest.items in
    let rest = c.next-in-loop-entry.new.self.rest.items in
    let e = c.in-Some-entry.entry in
    let parts = c.in-Some-entry.ensures.steps.0 in
    record {
      value =
          moved_one c.loop-entry.entries.items c.push-in-loop-entry.new.self.items left rest _ e c.moved.result c.args.by parts c.moved.ensures.value c.in_ok-push-2.ensures.items
          c.loop-entry.invariant.value;
      close = rest_close left rest e parts c.loop-entry.invariant.close;
      good = λ others. c.loop-entry.invariant.good (next_good left rest e parts c.moved.ensures.good others);
    }

pub returns-clause-value : goal.returns-clause-value
returns-clause-value c =
    let left = c.loop-entry.entry-iterator.rest.items in
    let none = nil_from_length left (sym c.loop-entry.entry-iterator.rest.ok.0 ∙ c.in-None.ensures.steps.0) in
    moved_all c.loop-entry.entries.items left _ c.args.by none c.loop-entry.invariant.value

pub returns-clause-good : goal.returns-clause-good
returns-clause-good c =
    let left = c.loop-entry.entry-iterator.rest.items in
    let none = nil_from_length left (sym c.loop-entry.entry-iterator.rest.ok.0 ∙ c.in-None.ensures.steps.0) in
    c.loop-entry.invariant.good (subst (All IsEntry) (sym none) (All-nil IsEntry))
