use Rattle.std.proofs.Common.{rules, ◌≡◌, Some, IsSome, sym, ap, subst, ◌∙◌, refl}
use Rattle.tile_store.specs.Tiles.{tile_at}
use Rattle.kept_tiles.proofs.Reaching.{some_from, none_from, found_first, untouched, reached_kept, reached_put}
use Rattle.kept_tiles.proofs.tile.reach.Goals as goal

pub stale_part-requires-clause-kept : goal.stale_part-requires-clause-kept
stale_part-requires-clause-kept c =
    let t = some_from (tile_at c.args.place.now.key c.args.tiles.now.tiles) (sym c.touch.ensures.kept ∙ c.if-touch.true) in
    subst IsSome (sym (found_first c.args.tiles.now c.touch.new.self c.args.place.now.key t.0 t.1 c.touch.ensures.store)) refl

pub stale_part-requires-clause-old : goal.stale_part-requires-clause-old
stale_part-requires-clause-old c u at =
    let t = some_from (tile_at c.args.place.now.key c.args.tiles.now.tiles) (sym c.touch.ensures.kept ∙ c.if-touch.true) in
    let first = found_first c.args.tiles.now c.touch.new.self c.args.place.now.key t.0 t.1 c.touch.ensures.store in
    let same : Some t.0 ≡ Some u = sym first ∙ at in
    c.requires.old u (t.1 ∙ same)

pub returns-then-touch-clause-reached : goal.returns-then-touch-clause-reached
returns-then-touch-clause-reached c =
    let t = some_from (tile_at c.args.place.now.key c.args.tiles.now.tiles) (sym c.touch.ensures.kept ∙ c.if-touch.true) in
    reached_kept c.args.interner.now c.args.tiles.now c.touch.new.self c.args.place.now.key c.args.place.now.rect c.stale_part.result _ t.0 t.1 c.touch.ensures.store c.stale_part.ensures

pub put_blank-requires-clause-new : goal.put_blank-requires-clause-new
put_blank-requires-clause-new c =
    let none = none_from (tile_at c.args.place.now.key c.args.tiles.now.tiles) (sym c.touch.ensures.kept ∙ c.if-touch.false) in
    ap (λ s. tile_at c.args.place.now.key s.tiles) (untouched c.args.tiles.now c.touch.new.self c.args.place.now.key none c.touch.ensures.store) ∙ none

pub put_blank-requires-clause-room : goal.put_blank-requires-clause-room
put_blank-requires-clause-room c =
    let none = none_from (tile_at c.args.place.now.key c.args.tiles.now.tiles) (sym c.touch.ensures.kept ∙ c.if-touch.false) in
    rw (untouched c.args.tiles.now c.touch.new.self c.args.place.now.key none c.touch.ensures.store) c.requires.room

pub returns-clause-reached : goal.returns-clause-reached
returns-clause-reached c =
    let none = none_from (tile_at c.args.place.now.key c.args.tiles.now.tiles) (sym c.touch.ensures.kept ∙ c.if-touch.false) in
    reached_put c.args.interner.now c.args.tiles.now c.touch.new.self c.put_blank.new.tiles c.args.place.now.key c.args.place.now.rect _ none c.touch.ensures.store c.in_ok-put_blank.ensures.put

pub returns-in_err-put_blank-clause-err : goal.returns-in_err-put_blank-clause-err
returns-in_err-put_blank-clause-err c =
    let none = none_from (tile_at c.args.place.now.key c.args.tiles.now.tiles) (sym c.touch.ensures.kept ∙ c.if-touch.false) in
    let e : c.put_blank.new.tiles ≡ c.args.tiles.now = c.in_err-put_blank.ensures.err ∙ untouched c.args.tiles.now c.touch.new.self c.args.place.now.key none c.touch.ensures.store in
    search (rules, e)
