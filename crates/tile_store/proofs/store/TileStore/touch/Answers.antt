use Rattle.std.proofs.Common.{refl}
use Rattle.tile_store.proofs.Listed.{promoted_is_touched, store_touched, touched_first}
use Rattle.tile_store.proofs.Backed.{touched_backed, open_touched, is_some_backed}
use Rattle.tile_store.proofs.store.TileStore.touch.Goals as goal

pub invariant_of-self : goal.invariant_of-self
invariant_of-self g c =
    rw (c.promote.ensures.entries, promoted_is_touched c.args.key c.self.inside.tiles.entries, touched_backed c.args.key c.self.inside.tiles.entries c.self.inside.window c.self.inside.lent)
    (c.self.invariant.0, open_touched c.args.key c.self.inside.tiles.entries c.self.inside.window c.self.invariant.1, store_touched c.args.key _ c.self.invariant.2)

pub returns-clause-kept : goal.returns-clause-kept
returns-clause-kept g c = rw (← c.self.view_is, is_some_backed c.self.inside.tiles.entries c.self.inside.window c.self.inside.lent c.args.key) c.promote.ensures.value

pub returns-clause-store : goal.returns-clause-store
returns-clause-store g c =
    rw (← c.self.view_is, c.promote.ensures.entries, promoted_is_touched c.args.key c.self.inside.tiles.entries, touched_backed c.args.key c.self.inside.tiles.entries c.self.inside.window c.self.inside.lent) refl

pub returns-clause-first : goal.returns-clause-first
returns-clause-first g c = λ tile found.
    rw (← c.self.view_is, c.promote.ensures.entries, promoted_is_touched c.args.key c.self.inside.tiles.entries, touched_backed c.args.key c.self.inside.tiles.entries c.self.inside.window c.self.inside.lent)
    (touched_first c.args.key _ tile (rw (← c.self.view_is) at found))
