use Rattle.std.proofs.Common.{sym, ap, ◌∙◌}
use Rattle.tile_store.specs.Tiles.{tile_at}
use Rattle.kept_tiles.proofs.Dropping.{note_from, no_note, dropped_moves, dropped_values, absent_moves, absent_values, none_left}
use Rattle.kept_tiles.proofs.tile.drop_tile.Goals as goal

pub returns-in-Some-clause-moves : goal.returns-in-Some-clause-moves
returns-in-Some-clause-moves c =
    let t = note_from (tile_at c.args.key c.args.tiles.now.tiles) c.in-Some.old (sym c.in-Some.is ∙ c.remove.ensures.note) in
    dropped_moves c.args.interner.now c.give_up.new.interner c.args.tiles.now c.remove.new.self c.args.key c.remove.ensures.store t.0 c.in-Some.old t.1 t.2 c.give_up.ensures.moves

pub returns-in-Some-clause-values : goal.returns-in-Some-clause-values
returns-in-Some-clause-values c =
    let t = note_from (tile_at c.args.key c.args.tiles.now.tiles) c.in-Some.old (sym c.in-Some.is ∙ c.remove.ensures.note) in
    dropped_values c.args.interner.now c.give_up.new.interner c.args.tiles.now c.remove.new.self c.args.key c.remove.ensures.store t.0 c.in-Some.old t.1 t.2 c.give_up.ensures.moves

pub returns-in-Some-clause-gone : goal.returns-in-Some-clause-gone
returns-in-Some-clause-gone c = ap (λ s. tile_at c.args.key s.tiles) c.remove.ensures.store ∙ none_left c.args.key c.args.tiles.now.tiles c.know_store.ensures.keys

pub returns-in_default-clause-moves : goal.returns-in_default-clause-moves
returns-in_default-clause-moves c =
    absent_moves c.args.interner.now c.args.interner.now c.args.tiles.now c.remove.new.self c.args.key c.remove.ensures.store
    (no_note (tile_at c.args.key c.args.tiles.now.tiles) (sym c.in_default.is ∙ c.remove.ensures.note))

pub returns-in_default-clause-values : goal.returns-in_default-clause-values
returns-in_default-clause-values c covers = absent_values c.args.interner.now c.args.interner.now c.args.tiles.now c.remove.new.self c.args.key c.remove.ensures.store

pub returns-in_default-clause-gone : goal.returns-in_default-clause-gone
returns-in_default-clause-gone c = ap (λ s. tile_at c.args.key s.tiles) c.remove.ensures.store ∙ none_left c.args.key c.args.tiles.now.tiles c.know_store.ensures.keys
