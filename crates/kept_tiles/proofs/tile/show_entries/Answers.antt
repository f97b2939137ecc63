use Rattle.std.proofs.Common.{◌++◌, [], ap, sym, subst, ◌∙◌, arith}
use Rattle.tile_records.specs.Counts.{Moves}
use Rattle.tile_records.specs.Interning.{entries_under, record_keys}
use Rattle.kept_tiles.specs.Tiles.{all_valued, claims, kept_with}
use Rattle.kept_tiles.proofs.Claims.{held_by, moves_beside}
use Rattle.kept_tiles.proofs.Fitting.{note_claimed, reached_inside, reached_narrow}
use Rattle.kept_tiles.proofs.Heading.{closed_again, headed, moved, named_before, named_behind}
use Rattle.kept_tiles.proofs.Lists.{valued_same}
use Rattle.kept_tiles.proofs.Working.{headed_area}
use Rattle.kept_tiles.proofs.tile.show_entries.Goals as goal

pub reach-requires-clause-old : goal.reach-requires-clause-old
reach-requires-clause-old c t at =
    held_by c.args.interner.now (record_keys t.note) (record_keys c.args.next ++ claims c.args.tiles.now.tiles) c.requires.covers
    (λ k h. named_behind k (record_keys c.args.next) (claims c.args.tiles.now.tiles) (note_claimed c.args.tiles.now c.args.place.now.key t at k h))

pub reach-requires-clause-new : goal.reach-requires-clause-new
reach-requires-clause-new c =
    held_by c.args.interner.now (record_keys c.args.next) (record_keys c.args.next ++ claims c.args.tiles.now.tiles) c.requires.covers
    (λ k h. named_before k (record_keys c.args.next) (claims c.args.tiles.now.tiles) h)

pub returns-in-Err-clause-values : goal.returns-in-Err-clause-values
returns-in-Err-clause-values c =
    ap (λ s. all_valued c.give_up.new.interner s.tiles) c.in-Err.ensures.err
    ∙ valued_same c.args.interner.now c.give_up.new.interner c.args.tiles.now.tiles (c.give_up.ensures.moves.entries (claims c.args.tiles.now.tiles) c.requires.covers)

pub returns-in-Err-clause-moves : goal.returns-in-Err-clause-moves
returns-in-Err-clause-moves c =
    subst (λ s. Moves c.args.interner.now c.give_up.new.interner (record_keys c.args.next ++ claims c.args.tiles.now.tiles) (claims s.tiles)) (sym c.in-Err.ensures.err)
    (moves_beside c.args.interner.now c.give_up.new.interner (record_keys c.args.next) [] (claims c.args.tiles.now.tiles) c.give_up.ensures.moves)

pub redraw-requires-clause-inside : goal.redraw-requires-clause-inside
redraw-requires-clause-inside c =
    reached_inside c.args.interner.now c.args.tiles.now c.reach.new.tiles c.args.place.now.key c.args.place.now.rect c.in-Ok.part
    (entries_under c.args.interner.now (record_keys c.args.next)) c.in-Ok.ensures.reached c.requires.placed

pub redraw-requires-clause-wide : goal.redraw-requires-clause-wide
redraw-requires-clause-wide c =
    let n = reached_narrow c.args.interner.now c.args.tiles.now c.reach.new.tiles c.args.place.now.key c.args.place.now.rect c.in-Ok.part
    (entries_under c.args.interner.now (record_keys c.args.next)) c.in-Ok.ensures.reached in
    omega (arith, n, c.requires.wide)

pub redraw-requires-clause-held : goal.redraw-requires-clause-held
redraw-requires-clause-held c =
    held_by c.args.interner.now (record_keys c.args.next) (record_keys c.args.next ++ claims c.args.tiles.now.tiles) c.requires.covers
    (λ k h. named_before k (record_keys c.args.next) (claims c.args.tiles.now.tiles) h)

pub returns-clause-shown : goal.returns-clause-shown
returns-clause-shown c = (
  c.in-Ok.part,
  headed c.args.interner.now c.redraw.new.interner c.args.tiles.now c.reach.new.tiles c.redraw.new.tiles c.args.place.now.key c.args.place.now.rect c.in-Ok.part c.args.next c.args.store.now
      c.in-Ok.ensures.reached c.redraw.ensures.drawn c.redraw.ensures.moves c.requires.covers,
)

pub returns-clause-drawn : goal.returns-clause-drawn
returns-clause-drawn c =
    c.area.ensures.value
    ∙ headed_area c.args.store.now (kept_with c.args.interner.now c.args.tiles.now) (kept_with c.redraw.new.interner c.redraw.new.tiles) c.args.place.now.key c.args.place.now.rect c.in-Ok.part
    (entries_under c.args.interner.now (record_keys c.args.next))
    (headed c.args.interner.now c.redraw.new.interner c.args.tiles.now c.reach.new.tiles c.redraw.new.tiles c.args.place.now.key c.args.place.now.rect c.in-Ok.part c.args.next c.args.store.now
    c.in-Ok.ensures.reached c.redraw.ensures.drawn c.redraw.ensures.moves c.requires.covers)

pub returns-clause-moves : goal.returns-clause-moves
returns-clause-moves c =
    moved c.args.interner.now c.redraw.new.interner c.args.tiles.now c.reach.new.tiles c.redraw.new.tiles c.args.place.now.key c.args.place.now.rect c.in-Ok.part c.args.next c.args.store.now
    c.in-Ok.ensures.reached c.redraw.ensures.drawn c.redraw.ensures.moves

pub returns-clause-closed : goal.returns-clause-closed
returns-clause-closed c =
    closed_again c.args.interner.now c.redraw.new.interner c.args.tiles.now c.reach.new.tiles c.redraw.new.tiles c.args.place.now.key c.args.place.now.rect c.in-Ok.part c.args.next c.args.store.now
    c.in-Ok.ensures.reached c.redraw.ensures.drawn c.redraw.ensures.moves
