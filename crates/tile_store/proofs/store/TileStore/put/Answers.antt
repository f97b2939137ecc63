use Rattle.std.proofs.Common.{◌≡◌, ◌≤◌, ◌-◌, length, Some, None, refl, sym, ◌∙◌, arith}
use Rattle.tile_store.specs.Keys.{same_key}
use Rattle.tile_store.specs.Tiles.{blank_tile}
use Rattle.tile_store.proofs.Puts.{put_new}
use Rattle.tile_store.proofs.Blank.{blank_is_tile}
use Rattle.tile_store.proofs.Backed.{none_backed, length_backed, put_backed, open_put, store_put}
use Rattle.tile_store.proofs.store.TileStore.put.Goals as goal

pub invariant_of-self-in-Ok-None : goal.invariant_of-self-in-Ok-None
invariant_of-self-in-Ok-None g c =
    let es = c.self.inside.tiles.entries in
    let unseen = rw (← c.self.view_is) at c.requires.new in
    let none = none_backed es c.self.inside.window c.self.inside.lent c.args.key unseen in
    let room = rw (← c.self.view_is) at c.requires.room in
    let same = length_backed es c.self.inside.window c.self.inside.lent in
    let fits : length es ≤ c.self.inside.tiles.cap - 1 = rw c.self.invariant.0 (omega (arith, room, same)) in
    rw (c.in-Ok-None.ensures.entries, put_new same_key c.self.inside.tiles c.args.key _ none fits, put_backed es c.self.inside.window c.self.inside.lent c.args.key _ none c.self.invariant.1, c.in-Ok.ensures, c.sides_of-width.ensures.width, c.sides_of-width.ensures.height) (
      c.self.invariant.0,
      open_put es c.self.inside.window c.args.key _ none c.self.invariant.1,
      store_put _ c.args.key (blank_tile c.args.rect c.args.note) unseen room (blank_is_tile c.args.rect c.args.note c.sides_of-width.ensures.rect c.requires.sides) c.self.invariant.2,
    )

pub returns-in-Ok-None-clause-kept : goal.returns-in-Ok-None-clause-kept
returns-in-Ok-None-clause-kept g c =
    let es = c.self.inside.tiles.entries in
    let unseen = rw (← c.self.view_is) at c.requires.new in
    let none = none_backed es c.self.inside.window c.self.inside.lent c.args.key unseen in
    let room = rw (← c.self.view_is) at c.requires.room in
    let same = length_backed es c.self.inside.window c.self.inside.lent in
    let fits : length es ≤ c.self.inside.tiles.cap - 1 = rw c.self.invariant.0 (omega (arith, room, same)) in
    rw (← c.self.view_is, c.in-Ok-None.ensures.entries, put_new same_key c.self.inside.tiles c.args.key _ none fits, put_backed es c.self.inside.window c.self.inside.lent c.args.key _ none c.self.invariant.1, c.in-Ok.ensures, c.sides_of-width.ensures.width, c.sides_of-width.ensures.height) refl

pub unreachable-requires : goal.unreachable-requires
unreachable-requires g c =
    let none = none_backed c.self.inside.tiles.entries c.self.inside.window c.self.inside.lent c.args.key (rw (← c.self.view_is) at c.requires.new) in
    let some : Some c.in-Ok-Some.field-0-0 ≡ None = sym c.in-Ok-Some.field-0-is ∙ c.in-Ok-Some.ensures.old ∙ none in
    cc
