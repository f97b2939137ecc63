use Rattle.std.proofs.Common.{[], arith}
use Rattle.tile_records.specs.Interning.{entries_under, record_keys}
use Rattle.kept_tiles.specs.Tiles.{claims, kept_of, kept_with}
use Rattle.kept_tiles.specs.Work.{records_of}
use Rattle.kept_tiles.proofs.Claims.{moves_beside}
use Rattle.kept_tiles.proofs.Counting.{small_cost}
use Rattle.kept_tiles.proofs.Lists.{valued_same}
use Rattle.kept_tiles.proofs.Sounding.{same_keeps}
use Rattle.kept_tiles.proofs.slice.show_next.Goals as goal

pub returns-then-not-is_well-clause-keeps : goal.returns-then-not-is_well-clause-keeps
returns-then-not-is_well-clause-keeps c sides placed =
    same_keeps sides c.args.store.now (kept_with c.args.interner.now c.args.tiles.now) (kept_with c.give_up.new.interner c.args.tiles.now)
    (valued_same c.args.interner.now c.give_up.new.interner c.args.tiles.now.tiles (c.give_up.ensures.moves.entries (claims c.args.tiles.now.tiles) c.requires.covers))

pub returns-then-not-is_well-clause-placed : goal.returns-then-not-is_well-clause-placed
returns-then-not-is_well-clause-placed c sides placed before =
    rw (valued_same c.args.interner.now c.give_up.new.interner c.args.tiles.now.tiles (c.give_up.ensures.moves.entries (claims c.args.tiles.now.tiles) c.requires.covers)) before

pub returns-then-not-is_well-clause-moves : goal.returns-then-not-is_well-clause-moves
returns-then-not-is_well-clause-moves c = moves_beside c.args.interner.now c.give_up.new.interner (record_keys c.args.next) [] (claims c.args.tiles.now.tiles) c.give_up.ensures.moves

pub overflow_add-drawn : goal.overflow_add-drawn
overflow_add-drawn c =
    let before = c.requires.count c.if-not-is_well.false in
    let most = small_cost (records_of (kept_of (kept_with c.args.interner.now c.args.tiles.now))) c.args.place.now.key c.args.place.now.rect (entries_under c.args.interner.now (record_keys c.args.next)) c.requires.sides in
    omega (arith, before, most, c.in-Ok.ensures.drawn)
