use Rattle.std.proofs.Common.{◌≡◌, ◌<◌, ◌≤◌, ℕ, length, inl, inr, sym, subst, ◌∙◌, arith}
use Rattle.std.proofs.lemmas.Bool.{cases_lt}
use Rattle.std.proofs.lemmas.List.{get_or-set_other, length-set, get_or-take, length-take-le}
use Rattle.std.proofs.lemmas.Grind.{get_or-set_at}
use Rattle.tile_raster.specs.Lists.{entries_of}
use Rattle.tile_raster.specs.Notes.{IsNote}
use Rattle.tile_raster.proofs.note.fill_notes.Goals as goal

pub loop-i-preserved : goal.loop-i-preserved
loop-i-preserved c =
    let store = c.args.store.now in
    let es = (entries_of c.args.entries) in
    let notes = c.loop-i.notes in
    let i = c.loop-i.i in
    let in_notes : i < length notes = omega (arith, c.loop-i.invariant.room, c.loop-i-test.true, c.min-count.ensures) in
    record {
      room = length-set notes i c.note_of.result ∙ c.loop-i.invariant.room;
      done = λ k d h. elim (cases_lt k i) [
        | inl less ↦ subst (IsNote store es k) (sym (get_or-set_other notes i k c.note_of.result d (λ e. absurd (omega (arith, less, e))))) (c.loop-i.invariant.done k d less)
        | inr more ↦
            let same : k ≡ i = omega (arith, more, h) in
            subst (IsNote store es k) (sym (get_or-set_at notes i k c.note_of.result d same in_notes)) (subst (λ (n : ℕ). IsNote store es n c.note_of.result) (sym same) c.note_of.ensures)
      ];
    }

pub returns-clause-notes : goal.returns-clause-notes
returns-clause-notes c i d h k =
    let notes = c.loop-i.notes in
    let count = c.min-count.result in
    let fits : count ≤ length notes = omega (arith, c.loop-i.invariant.room, c.min-count.ensures) in
    let less : i < count = omega (arith, h, length-take-le count notes fits) in
    subst (IsNote c.args.store.now (entries_of c.args.entries) i) (sym (get_or-take count notes i d less)) (c.loop-i.invariant.done i d (omega (arith, less, c.loop-i-test.false)))
