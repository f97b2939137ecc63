use Rattle.std.proofs.Common.{◌≡◌, ℕ, List, ◌++◌, length, take, drop, sym, ap, subst, ◌∙◌, arith}
use Rattle.std.proofs.lemmas.List.{with_items_is}
use Rattle.primitives.specs.Stacks.{value_at}
use Rattle.tile_raster.specs.declared.note.Note.{Note}
use Rattle.tile_raster.specs.declared.level.LevelRows.{LevelRows}
use Rattle.tile_raster.specs.Notes.{AreNotes}
use Rattle.tile_raster.specs.Rasters.{AreWide, IsFit}
use Rattle.tile_records.proofs.Unders.{under}
use Rattle.tile_raster.proofs.Held.{held_count}
use Rattle.tile_raster.proofs.Levels.{shallow_below}
use Rattle.tile_raster.proofs.Windows.{closed_drawn, nothing_drawn}
use Rattle.tile_raster.proofs.window.raster_ids.Goals as goal

pub draw_window_rows-requires-clause-drawing : goal.draw_window_rows-requires-clause-drawing
draw_window_rows-requires-clause-drawing g c =
    let es = under c.args.interner.now c.args.ids.now in
    let store = c.args.store.now in
    let notes = c.scratch.inside.notes in
    let new = c.fill_notes-count.new.notes in
    let len = c.fill_notes-count.auto.notes ∙ ap (λ (l : List Note). length l) c.deref_mut.ensures.value in
    let same : c.deref.result.now ≡ new = c.deref.ensures.value ∙ with_items_is notes new (len ∙ sym notes.ok.0) in
    record {
      list = c.requires.held;
      few = omega (arith, c.requires.few, held_count c.args.interner.now c.args.ids.now c.requires.held);
      balanced = c.requires.balanced;
      entries = c.know_entries.ensures;
      store = c.know_store.ensures;
      notes = subst (λ (l : List Note). AreNotes store es (take c.fill_notes-count.result l)) (sym same) c.fill_notes-count.ensures.notes;
    }

pub draw_window_rows-requires-clause-below : goal.draw_window_rows-requires-clause-below
draw_window_rows-requires-clause-below g c = λ i n at.
    let count : length c.deref_mut-2.result.now ≡ 65 = ap (λ (l : List LevelRows). length l) c.deref_mut-2.ensures.value ∙ c.scratch.invariant.1 in
    omega (arith, shallow_below (under c.args.interner.now c.args.ids.now) 64 c.requires.balanced c.requires.shallow i n at, count)

pub invariant_of-scratch : goal.invariant_of-scratch
invariant_of-scratch g c =
    let inv = c.scratch.invariant in
    let levels = c.scratch.inside.levels in
    let new = c.draw_window_rows.new.levels in
    let len : length new ≡ length levels.items = c.draw_window_rows.ensures.levels ∙ ap (λ (l : List LevelRows). length l) c.deref_mut-2.ensures.value in
    let same : take levels.len (new ++ drop (length new) levels.items) ≡ new = with_items_is levels new (len ∙ sym levels.ok.0) in (
      c.draw_window_rows.ensures.row ∙ inv.0,
      ap (λ (l : List LevelRows). length l) same ∙ len ∙ inv.1,
      subst (λ (l : List LevelRows). AreWide c.scratch.inside.width l) (sym same) (subst (λ (n : ℕ). AreWide n new) inv.0 c.draw_window_rows.ensures.wide),
      subst (λ (n : ℕ). IsFit n c.draw_window_rows.new.tools) inv.0 c.draw_window_rows.ensures.tools,
    )

pub returns-clause-drawn : goal.returns-clause-drawn
returns-clause-drawn g c = closed_drawn c.args.tiles.now c.open_window.new.self c.draw_window_rows.new.tiles c.close_window.new.self c.args.window (value_at (under c.args.interner.now c.args.ids.now) c.args.store.now)
    c.open_window.ensures c.draw_window_rows.ensures.drawn c.close_window.ensures c.draw_window_rows.ensures.rect.down

pub returns-then-is_empty-clause-drawn : goal.returns-then-is_empty-clause-drawn
returns-then-is_empty-clause-drawn g c =
    nothing_drawn c.args.tiles.now c.args.window (value_at (under c.args.interner.now c.args.ids.now) c.args.store.now)
    c.corner_of-corner.ensures.rect (c.is_empty.ensures.points.0 c.if-is_empty.true) c.requires.closed (omega (arith, c.opened-opened.ensures.value, c.opened-opened.ensures.fits))
