use Rattle.std.proofs.Common.{◌≡◌, List, length, take, sym, ap, subst, ◌∙◌, arith}
use Rattle.std.proofs.lemmas.List.{with_items_is}
use Rattle.tile_raster.specs.declared.note.Note.{Note}
use Rattle.tile_raster.specs.Notes.{AreNotes}
use Rattle.tile_raster.specs.declared.level.LevelRows.{LevelRows}
use Rattle.tile_raster.proofs.Levels.{shallow_below}
use Rattle.tile_raster.proofs.rows.draw.Goals as goal

pub draw_rows-requires-clause-drawing : goal.draw_rows-requires-clause-drawing
draw_rows-requires-clause-drawing c =
    let es = c.args.entries.now in
    let store = c.args.store.now in
    let notes = c.scratch.inside.notes in
    let new = c.fill_notes-count.new.notes in
    let len = c.fill_notes-count.auto.notes ∙ ap (λ (l : List Note). length l) c.deref_mut.ensures.value in
    let same : c.deref.result.now ≡ new = c.deref.ensures.value ∙ with_items_is notes new (len ∙ sym notes.ok.0) in
    record {
      list = tt;
      few = c.requires.few;
      balanced = c.requires.balanced;
      entries = c.know_entries.ensures;
      store = c.know_store.ensures;
      notes = subst (λ (l : List Note). AreNotes store es (take c.fill_notes-count.result l)) (sym same) c.fill_notes-count.ensures.notes;
    }

pub draw_rows-requires-clause-below : goal.draw_rows-requires-clause-below
draw_rows-requires-clause-below c i n at =
    let count : length c.deref_mut-2.result.now ≡ 65 = ap (λ (l : List LevelRows). length l) c.deref_mut-2.ensures.value ∙ c.scratch.invariant.1 in
    omega (arith, shallow_below c.args.entries.now 64 c.requires.balanced c.requires.shallow i n at, count)
