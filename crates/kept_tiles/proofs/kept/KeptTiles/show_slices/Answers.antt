use Rattle.std.proofs.Common.{ℕ, ◌+◌, ◌∷◌, List, drop, length, ap, sym, subst, ◌∙◌, arith, refl}
use Rattle.std.proofs.lemmas.List.{drop_more, drop_all, length-append}
use Rattle.picture_slices.specs.declared.slice.Slice.{Slice}
use Rattle.kept_tiles.specs.Tiles.{KeptModel, kept_of, kept_with}
use Rattle.kept_tiles.specs.Progress.{KeepsSound}
use Rattle.kept_tiles.specs.Steps.{ArePlaced}
use Rattle.kept_tiles.specs.Work.{frame_tiles, slice_tiles}
use Rattle.tile_store.specs.declared.limits.TheConstants.{MAX_TILES}
use Rattle.kept_tiles.proofs.Counting.{counting_fits, small_frame}
use Rattle.kept_tiles.proofs.Progress.{IsCounting, IsUnderway, counting_done, counting_start, counting_step, keeps_itself, keeps_then, underway_done, underway_start, underway_step, underway_within, within_step}
use Rattle.kept_tiles.proofs.kept.KeptTiles.show_slices.Goals as goal

pub loop-slice-init : goal.loop-slice-init
loop-slice-init c =
    let now = kept_with c.self.inside.interner c.self.inside.tiles in
    record {
      underway = subst (λ (k : KeptModel). IsUnderway k now (frame_tiles c.args.sides c.args.slices.now) (frame_tiles c.args.sides c.args.slices.now)) c.self.view_is
          (underway_start now (frame_tiles c.args.sides c.args.slices.now) (omega (arith, c.opened-before.ensures.value, c.opened-before.ensures.fits)));
      counting = subst (λ (k : KeptModel). IsCounting k now (frame_tiles c.args.sides c.args.slices.now) (frame_tiles c.args.sides c.args.slices.now) 0) c.self.view_is
          (counting_start now (frame_tiles c.args.sides c.args.slices.now));
      keeps = subst (λ (k : KeptModel). KeepsSound c.args.sides c.args.store.now k now) c.self.view_is (keeps_itself c.args.sides c.args.store.now now);
      placed = subst (λ (k : KeptModel). ArePlaced c.args.sides (kept_of k)) (sym c.self.view_is) c.requires.placed;
      covers = c.self.invariant.0;
      closed = c.self.invariant.1;
      scratch = refl;
    }

pub invariant_of-self : goal.invariant_of-self
invariant_of-self c = (c.loop-slice.invariant.covers, c.loop-slice.invariant.closed)

pub show_slice-requires-clause-closed : goal.show_slice-requires-clause-closed
show_slice-requires-clause-closed c = c.loop-slice.invariant.closed

pub show_slice-requires-clause-covers : goal.show_slice-requires-clause-covers
show_slice-requires-clause-covers c = c.loop-slice.invariant.covers

pub show_slice-requires-clause-room : goal.show_slice-requires-clause-room
show_slice-requires-clause-room c =
    let i = c.loop-slice.slice-index in
    let list = drop_more c.args.slices.now i c.slice-item.result c.loop-slice-test.true ∙ ap (λ (s : Slice). s ∷ drop (i + 1) c.args.slices.now) (sym c.slice-item.is) in
    let left = ap (λ (l : List Slice). length (frame_tiles c.args.sides l)) list in
    let both = length-append (slice_tiles c.args.sides c.slice-item.result) (frame_tiles c.args.sides (drop (i + 1) c.args.slices.now)) in
    let room = c.loop-slice.invariant.underway.room in
    omega (arith, left, both, room, c.requires.room)

pub show_slice-requires-clause-placed : goal.show_slice-requires-clause-placed
show_slice-requires-clause-placed c = c.loop-slice.invariant.placed

pub show_slice-requires-clause-wide : goal.show_slice-requires-clause-wide
show_slice-requires-clause-wide c = let same = ap (λ s. s.width) c.loop-slice.invariant.scratch in omega (arith, same, c.requires.wide)

pub returns-in_err-drawn-clause-within : goal.returns-in_err-drawn-clause-within
returns-in_err-drawn-clause-within c =
    let i = c.loop-slice.slice-index in
    let now = kept_with c.loop-slice.self-inside.interner c.loop-slice.self-inside.tiles in
    let list = drop_more c.args.slices.now i c.slice-item.result c.loop-slice-test.true ∙ ap (λ (s : Slice). s ∷ drop (i + 1) c.args.slices.now) (sym c.slice-item.is) in
    let u = subst (λ (l : List Slice). IsUnderway c.args.self.now now (frame_tiles c.args.sides c.args.slices.now) (frame_tiles c.args.sides l)) list c.loop-slice.invariant.underway in
    within_step c.args.self.now now (kept_with c.show_slice.new.interner c.show_slice.new.tiles) (frame_tiles c.args.sides c.args.slices.now) (slice_tiles c.args.sides c.slice-item.result)
    (frame_tiles c.args.sides (drop (i + 1) c.args.slices.now)) u c.in_err-drawn.ensures.within

pub returns-in_err-drawn-clause-keeps : goal.returns-in_err-drawn-clause-keeps
returns-in_err-drawn-clause-keeps c =
    keeps_then c.args.sides c.args.store.now c.args.self.now (kept_with c.loop-slice.self-inside.interner c.loop-slice.self-inside.tiles) (kept_with c.show_slice.new.interner c.show_slice.new.tiles)
    c.loop-slice.invariant.keeps c.in_err-drawn.ensures.keeps

pub returns-in_err-drawn-clause-scratch : goal.returns-in_err-drawn-clause-scratch
returns-in_err-drawn-clause-scratch c = c.in_err-drawn.ensures.scratch ∙ c.loop-slice.invariant.scratch

pub overflow_add-drawn : goal.overflow_add-drawn
overflow_add-drawn c =
    let i = c.loop-slice.slice-index in
    let now = kept_with c.loop-slice.self-inside.interner c.loop-slice.self-inside.tiles in
    let list = drop_more c.args.slices.now i c.slice-item.result c.loop-slice-test.true ∙ ap (λ (s : Slice). s ∷ drop (i + 1) c.args.slices.now) (sym c.slice-item.is) in
    let counting = subst (λ (l : List Slice). IsCounting c.args.self.now now (frame_tiles c.args.sides c.args.slices.now) (frame_tiles c.args.sides l) c.loop-slice.drawn) list c.loop-slice.invariant.counting in
    let most = counting_fits c.args.self.now now (frame_tiles c.args.sides c.args.slices.now) (slice_tiles c.args.sides c.slice-item.result) (frame_tiles c.args.sides (drop (i + 1) c.args.slices.now))
    c.loop-slice.drawn MAX_TILES counting (small_frame c.args.sides c.args.slices.now c.requires.sides) (omega (arith, c.requires.room)) in
    omega (arith, most, c.in_ok-drawn.ensures.drawn)

pub loop-slice-preserved : goal.loop-slice-preserved
loop-slice-preserved c =
    let i = c.loop-slice.slice-index in
    let now = kept_with c.loop-slice.self-inside.interner c.loop-slice.self-inside.tiles in
    let next = kept_with c.show_slice.new.interner c.show_slice.new.tiles in
    let list = drop_more c.args.slices.now i c.slice-item.result c.loop-slice-test.true ∙ ap (λ (s : Slice). s ∷ drop (i + 1) c.args.slices.now) (sym c.slice-item.is) in
    let u = subst (λ (l : List Slice). IsUnderway c.args.self.now now (frame_tiles c.args.sides c.args.slices.now) (frame_tiles c.args.sides l)) list c.loop-slice.invariant.underway in
    let counting = subst (λ (l : List Slice). IsCounting c.args.self.now now (frame_tiles c.args.sides c.args.slices.now) (frame_tiles c.args.sides l) c.loop-slice.drawn) list c.loop-slice.invariant.counting in
    record {
      underway = underway_step c.args.self.now now next (frame_tiles c.args.sides c.args.slices.now) (slice_tiles c.args.sides c.slice-item.result) (frame_tiles c.args.sides (drop (i + 1) c.args.slices.now))
          u c.in_ok-drawn.ensures.work c.in_ok-drawn.ensures.within.more;
      counting = counting_step c.args.self.now now next (frame_tiles c.args.sides c.args.slices.now) (slice_tiles c.args.sides c.slice-item.result) (frame_tiles c.args.sides (drop (i + 1) c.args.slices.now))
          c.loop-slice.drawn _ counting c.in_ok-drawn.ensures.work (ap (λ (n : ℕ). c.loop-slice.drawn + n) c.in_ok-drawn.ensures.drawn);
      keeps = keeps_then c.args.sides c.args.store.now c.args.self.now now next c.loop-slice.invariant.keeps c.in_ok-drawn.ensures.keeps;
      placed = c.in_ok-drawn.ensures.placed;
      covers = c.in_ok-drawn.ensures.covers;
      closed = c.in_ok-drawn.ensures.closed;
      scratch = c.in_ok-drawn.ensures.scratch ∙ c.loop-slice.invariant.scratch;
    }

pub returns-clause-work : goal.returns-clause-work
returns-clause-work c =
    let now = kept_with c.loop-slice.self-inside.interner c.loop-slice.self-inside.tiles in
    let none = drop_all c.loop-slice.slice-index c.args.slices.now c.loop-slice-test.false in
    underway_done c.args.self.now now (frame_tiles c.args.sides c.args.slices.now)
    (subst (λ (l : List Slice). IsUnderway c.args.self.now now (frame_tiles c.args.sides c.args.slices.now) (frame_tiles c.args.sides l)) none c.loop-slice.invariant.underway)

pub returns-clause-drawn : goal.returns-clause-drawn
returns-clause-drawn c =
    let now = kept_with c.loop-slice.self-inside.interner c.loop-slice.self-inside.tiles in
    let none = drop_all c.loop-slice.slice-index c.args.slices.now c.loop-slice-test.false in
    counting_done c.args.self.now now (frame_tiles c.args.sides c.args.slices.now) c.loop-slice.drawn
    (subst (λ (l : List Slice). IsCounting c.args.self.now now (frame_tiles c.args.sides c.args.slices.now) (frame_tiles c.args.sides l) c.loop-slice.drawn) none c.loop-slice.invariant.counting)

pub returns-clause-within : goal.returns-clause-within
returns-clause-within c =
    underway_within c.args.self.now (kept_with c.loop-slice.self-inside.interner c.loop-slice.self-inside.tiles) (frame_tiles c.args.sides c.args.slices.now)
    (frame_tiles c.args.sides (drop c.loop-slice.slice-index c.args.slices.now)) c.loop-slice.invariant.underway

pub returns-clause-keeps : goal.returns-clause-keeps
returns-clause-keeps c = c.loop-slice.invariant.keeps

pub returns-clause-placed : goal.returns-clause-placed
returns-clause-placed c = c.loop-slice.invariant.placed

pub returns-clause-scratch : goal.returns-clause-scratch
returns-clause-scratch c = c.loop-slice.invariant.scratch
