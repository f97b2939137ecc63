use Rattle.std.proofs.Common.{◌≡◌, ◌+◌, ◌++◌, [], true, length, List, ap, sym, subst, ◌∙◌, arith, refl}
use Rattle.wr_geom.specs.Bounds.{Bounds, width_of}
use Rattle.tile_grid.specs.Tiles.{tile_rect}
use Rattle.tile_grid.specs.Grids.{tiles_from, tiles_of}
use Rattle.tile_grid.specs.Grids.{tile_at as grid_tile}
use Rattle.tile_records.specs.Interning.{entries_under, record_keys}
use Rattle.tile_records.specs.Passing.{joined, keys_of_records}
use Rattle.tile_records.specs.declared.record.TileRecord.{TileRecord}
use Rattle.tile_store.specs.declared.limits.TheConstants.{MAX_TILES}
use Rattle.kept_tiles.specs.Tiles.{kept_of, kept_with, claims}
use Rattle.kept_tiles.specs.Steps.{AreDrawable}
use Rattle.kept_tiles.specs.Work.{IsWorkDone, records_of, shown_tiles, work_at}
use Rattle.kept_tiles.proofs.Counting.{counting_fits, small_tiles}
use Rattle.kept_tiles.proofs.Progress.{IsCounting}
use Rattle.kept_tiles.proofs.Slices.{IsNextShown, IsShowing, counting_tile, fewer_claims, length_shown, next_claims, own_entries_of, picked_drawable, placed_tile, rect_width, showing_covers, showing_done, showing_room, showing_start, showing_step, tiles_counting_done, tiles_counting_start}
use Rattle.kept_tiles.proofs.slice.show_records.Goals as goal

pub loop-record-init : goal.loop-record-init
loop-record-init c = record {
  showing = subst (λ (l : List TileRecord). IsShowing c.args.slice.now c.args.grid c.args.store.now (kept_with c.args.interner.now c.args.tiles.now) c.args.interner.now c.args.tiles.now true 0 l)
      (sym c.into_iter-record-iterator.ensures.into_iter_gives.0)
      (showing_start c.args.slice.now c.args.grid c.args.store.now c.args.interner.now c.args.tiles.now c.args.records.items
      c.requires.covers c.requires.count c.requires.entries (omega (arith, c.opened-before.ensures.value, c.opened-before.ensures.fits)) c.requires.placed c.requires.closed);
  counting = λ t. subst (λ (l : List TileRecord). IsCounting (kept_with c.args.interner.now c.args.tiles.now) (kept_with c.args.interner.now c.args.tiles.now)
      (shown_tiles c.args.slice.now (tiles_of c.args.grid)) (shown_tiles c.args.slice.now (tiles_from c.args.grid 0 (length l))) 0)
      (sym c.into_iter-record-iterator.ensures.into_iter_gives.0)
      (tiles_counting_start c.args.slice.now c.args.grid (kept_with c.args.interner.now c.args.tiles.now) c.args.records.items c.requires.count);
  scratch = refl;
}

pub place_at-place-requires : goal.place_at-place-requires
place_at-place-requires c =
    let e = ap (λ (l : List TileRecord). length l) c.in-Some.ensures.steps.0 in
    let n = c.loop-record.invariant.showing.count in
    omega (arith, n, e)

pub show_next-is_well-requires-clause-closed : goal.show_next-is_well-requires-clause-closed
show_next-is_well-requires-clause-closed c = c.loop-record.invariant.showing.closed

pub show_next-is_well-requires-clause-room : goal.show_next-is_well-requires-clause-room
show_next-is_well-requires-clause-room c well =
    let first = kept_with c.args.interner.now c.args.tiles.now in
    let now = subst (λ (l : List TileRecord). IsShowing c.args.slice.now c.args.grid c.args.store.now first c.loop-record.interner c.loop-record.tiles c.loop-record.is_well c.loop-record.i l)
    c.in-Some.ensures.steps.0 c.loop-record.invariant.showing in
    let long = length_shown c.args.slice.now c.args.grid in
    showing_room c.args.slice.now c.args.grid c.args.store.now first c.loop-record.interner c.loop-record.tiles c.loop-record.i MAX_TILES c.in-Some.record c.next.new.self.rest.items
    (rw (← well) now) (omega (arith, long, c.requires.room))

pub show_next-is_well-requires-clause-placed : goal.show_next-is_well-requires-clause-placed
show_next-is_well-requires-clause-placed c =
    placed_tile c.args.grid.sides c.loop-record.interner c.loop-record.tiles c.place_at-place.result.key c.place_at-place.result.rect
    (c.place_at-place.ensures.rect ∙ ap (λ k. tile_rect c.args.grid.sides k.col k.row) (sym c.place_at-place.ensures.key)) c.loop-record.invariant.showing.placed

pub show_next-is_well-requires-clause-wide : goal.show_next-is_well-requires-clause-wide
show_next-is_well-requires-clause-wide c =
    let t = grid_tile c.args.grid c.loop-record.i in
    let wide = ap (λ (b : Bounds). width_of b) c.place_at-place.ensures.rect ∙ rect_width c.args.grid.sides t.col t.row in
    let same = ap (λ s. s.width) c.loop-record.invariant.scratch in
    omega (arith, wide, same, c.requires.wide)

pub show_next-is_well-requires-clause-covers : goal.show_next-is_well-requires-clause-covers
show_next-is_well-requires-clause-covers c =
    let first = kept_with c.args.interner.now c.args.tiles.now in
    let now = subst (λ (l : List TileRecord). IsShowing c.args.slice.now c.args.grid c.args.store.now first c.loop-record.interner c.loop-record.tiles c.loop-record.is_well c.loop-record.i l)
    c.in-Some.ensures.steps.0 c.loop-record.invariant.showing in
    let own = record_keys c.in-Some.record in
    let rest = joined (keys_of_records c.next.new.self.rest.items) in
    let kept = claims c.loop-record.tiles.tiles in
    fewer_claims c.loop-record.interner ((own ++ rest) ++ kept) (own ++ kept) (next_claims own rest kept) now.covers

pub show_next-is_well-requires-clause-drawable : goal.show_next-is_well-requires-clause-drawable
show_next-is_well-requires-clause-drawable c =
    let first = kept_with c.args.interner.now c.args.tiles.now in
    let now = subst (λ (l : List TileRecord). IsShowing c.args.slice.now c.args.grid c.args.store.now first c.loop-record.interner c.loop-record.tiles c.loop-record.is_well c.loop-record.i l)
    c.in-Some.ensures.steps.0 c.loop-record.invariant.showing in
    let own = own_entries_of c.args.slice.now c.args.grid c.args.store.now first c.loop-record.interner c.loop-record.tiles c.loop-record.is_well c.loop-record.i c.in-Some.record c.next.new.self.rest.items now in
    subst (AreDrawable c.args.store.now) (sym own)
    (picked_drawable c.args.store.now (grid_tile c.args.grid c.loop-record.i).rect c.args.slice.now.entries c.picking_laws.ensures.balanced c.picking_laws.ensures.shallow c.picking_laws.ensures.entries c.requires.drawable)

pub show_next-is_well-requires-clause-count : goal.show_next-is_well-requires-clause-count
show_next-is_well-requires-clause-count c well =
    let first = kept_with c.args.interner.now c.args.tiles.now in
    let all = shown_tiles c.args.slice.now (tiles_of c.args.grid) in
    let left = shown_tiles c.args.slice.now (tiles_from c.args.grid c.loop-record.i (length c.loop-record.record-iterator.rest.items)) in
    let long = length_shown c.args.slice.now c.args.grid in
    let most = counting_fits first (kept_with c.loop-record.interner c.loop-record.tiles) all [] left c.loop-record.drawn MAX_TILES (c.loop-record.invariant.counting well)
    (small_tiles c.args.slice.now c.args.grid c.sides-sides.ensures.grid.sides) (omega (arith, long, c.requires.room)) in
    omega (arith, most)

pub overflow_add-i : goal.overflow_add-i
overflow_add-i c =
    let e = ap (λ (l : List TileRecord). length l) c.in-Some.ensures.steps.0 in
    let n = c.loop-record.invariant.showing.count in
    omega (arith, n, e, c.count-count.ensures.value)

pub loop-record-preserved : goal.loop-record-preserved
loop-record-preserved c =
    let first = kept_with c.args.interner.now c.args.tiles.now in
    let old = kept_with c.loop-record.interner c.loop-record.tiles in
    let new = kept_with c.show_next-is_well.new.interner c.show_next-is_well.new.tiles in
    let step = c.show_next-is_well.ensures in
    let now = subst (λ (l : List TileRecord). IsShowing c.args.slice.now c.args.grid c.args.store.now first c.loop-record.interner c.loop-record.tiles c.loop-record.is_well c.loop-record.i l)
    c.in-Some.ensures.steps.0 c.loop-record.invariant.showing in
    let counting = subst (λ (l : List TileRecord). c.loop-record.is_well ≡ true → IsCounting first old (shown_tiles c.args.slice.now (tiles_of c.args.grid))
    (shown_tiles c.args.slice.now (tiles_from c.args.grid c.loop-record.i (length l))) c.loop-record.drawn) c.in-Some.ensures.steps.0 c.loop-record.invariant.counting in
    let place_is = c.place_at-place.ensures.rect ∙ ap (λ k. tile_rect c.args.grid.sides k.col k.row) (sym c.place_at-place.ensures.key) in
    let own = entries_under c.loop-record.interner (record_keys c.in-Some.record) in
    let shown : IsNextShown c.args.slice.now c.args.grid c.args.store.now c.loop-record.interner c.show_next-is_well.new.interner c.loop-record.tiles c.show_next-is_well.new.tiles c.loop-record.is_well
    c.show_next-is_well.result c.loop-record.i c.in-Some.record = record {
      well = step.well;
      work = λ t. subst (λ k. IsWorkDone old new (work_at (records_of (kept_of old)) k (grid_tile c.args.grid c.loop-record.i).rect own)) c.place_at-place.ensures.key
          (subst (λ (b : Bounds). IsWorkDone old new (work_at (records_of (kept_of old)) c.place_at-place.result.key b own)) c.place_at-place.ensures.rect (step.work t));
      keeps = step.keeps c.args.grid.sides place_is;
      placed = step.placed c.args.grid.sides place_is;
      more = step.more;
      err = step.err;
      skipped = step.skipped;
      moves = step.moves;
      closed = step.closed;
    } in
    let risen = λ (t : c.show_next-is_well.result ≡ true).
    subst (λ k. c.show_next-is_well.new.drawn ≡ c.loop-record.drawn + (work_at (records_of (kept_of old)) k (grid_tile c.args.grid c.loop-record.i).rect own).cost) c.place_at-place.ensures.key
    (subst (λ (b : Bounds). c.show_next-is_well.new.drawn ≡ c.loop-record.drawn + (work_at (records_of (kept_of old)) c.place_at-place.result.key b own).cost) c.place_at-place.ensures.rect (step.drawn t)) in
    record {
      showing = showing_step c.args.slice.now c.args.grid c.args.store.now first c.loop-record.interner c.show_next-is_well.new.interner c.loop-record.tiles c.show_next-is_well.new.tiles
          c.loop-record.is_well c.show_next-is_well.result c.loop-record.i c.in-Some.record c.next.new.self.rest.items now shown;
      counting = counting_tile c.args.slice.now c.args.grid c.args.store.now first c.loop-record.interner c.show_next-is_well.new.interner c.loop-record.tiles c.show_next-is_well.new.tiles
          c.loop-record.is_well c.show_next-is_well.result c.loop-record.i c.in-Some.record c.next.new.self.rest.items now shown c.loop-record.drawn c.show_next-is_well.new.drawn counting risen;
      scratch = step.scratch ∙ c.loop-record.invariant.scratch;
    }

pub returns-then-is_well-clause-work : goal.returns-then-is_well-clause-work
returns-then-is_well-clause-work c =
    let none : length c.loop-record.record-iterator.rest.items ≡ 0 = omega (arith, c.in-None.ensures.steps.0, c.loop-record.record-iterator.rest.ok.0) in
    showing_done c.args.slice.now c.args.grid c.args.store.now (kept_with c.args.interner.now c.args.tiles.now) c.loop-record.interner c.loop-record.tiles c.loop-record.i c.loop-record.record-iterator.rest.items
    (rw (← c.if-is_well.true) c.loop-record.invariant.showing) none

pub returns-then-is_well-clause-drawn : goal.returns-then-is_well-clause-drawn
returns-then-is_well-clause-drawn c =
    let none : length c.loop-record.record-iterator.rest.items ≡ 0 = omega (arith, c.in-None.ensures.steps.0, c.loop-record.record-iterator.rest.ok.0) in
    tiles_counting_done c.args.slice.now c.args.grid (kept_with c.args.interner.now c.args.tiles.now) (kept_with c.loop-record.interner c.loop-record.tiles) c.loop-record.i
    (length c.loop-record.record-iterator.rest.items) c.loop-record.drawn (c.loop-record.invariant.counting c.if-is_well.true) none

pub returns-then-is_well-clause-within : goal.returns-then-is_well-clause-within
returns-then-is_well-clause-within c = c.loop-record.invariant.showing.within

pub returns-then-is_well-clause-keeps : goal.returns-then-is_well-clause-keeps
returns-then-is_well-clause-keeps c = c.loop-record.invariant.showing.keeps

pub returns-then-is_well-clause-placed : goal.returns-then-is_well-clause-placed
returns-then-is_well-clause-placed c = c.loop-record.invariant.showing.placed

pub returns-then-is_well-clause-covers : goal.returns-then-is_well-clause-covers
returns-then-is_well-clause-covers c =
    let none : length c.loop-record.record-iterator.rest.items ≡ 0 = omega (arith, c.in-None.ensures.steps.0, c.loop-record.record-iterator.rest.ok.0) in
    showing_covers c.args.slice.now c.args.grid c.args.store.now (kept_with c.args.interner.now c.args.tiles.now) c.loop-record.interner c.loop-record.tiles c.loop-record.is_well c.loop-record.i c.loop-record.record-iterator.rest.items
    c.loop-record.invariant.showing none

pub returns-then-is_well-clause-closed : goal.returns-then-is_well-clause-closed
returns-then-is_well-clause-closed c = c.loop-record.invariant.showing.closed

pub returns-then-is_well-clause-scratch : goal.returns-then-is_well-clause-scratch
returns-then-is_well-clause-scratch c = c.loop-record.invariant.scratch

pub returns-else-is_well-clause-within : goal.returns-else-is_well-clause-within
returns-else-is_well-clause-within c = c.loop-record.invariant.showing.within

pub returns-else-is_well-clause-keeps : goal.returns-else-is_well-clause-keeps
returns-else-is_well-clause-keeps c = c.loop-record.invariant.showing.keeps

pub returns-else-is_well-clause-placed : goal.returns-else-is_well-clause-placed
returns-else-is_well-clause-placed c = c.loop-record.invariant.showing.placed

pub returns-else-is_well-clause-covers : goal.returns-else-is_well-clause-covers
returns-else-is_well-clause-covers c =
    let none : length c.loop-record.record-iterator.rest.items ≡ 0 = omega (arith, c.in-None.ensures.steps.0, c.loop-record.record-iterator.rest.ok.0) in
    showing_covers c.args.slice.now c.args.grid c.args.store.now (kept_with c.args.interner.now c.args.tiles.now) c.loop-record.interner c.loop-record.tiles c.loop-record.is_well c.loop-record.i c.loop-record.record-iterator.rest.items
    c.loop-record.invariant.showing none

pub returns-else-is_well-clause-closed : goal.returns-else-is_well-clause-closed
returns-else-is_well-clause-closed c = c.loop-record.invariant.showing.closed

pub returns-else-is_well-clause-scratch : goal.returns-else-is_well-clause-scratch
returns-else-is_well-clause-scratch c = c.loop-record.invariant.scratch
