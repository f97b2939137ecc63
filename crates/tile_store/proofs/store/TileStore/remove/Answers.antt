use Rattle.std.proofs.Common.{◌≡◌, None}
use Rattle.tile_store.proofs.Listed.{store_without}
use Rattle.tile_store.proofs.Backed.{closed_from}
use Rattle.tile_store.proofs.store.TileStore.remove.Goals as goal

pub invariant_of-self : goal.invariant_of-self
invariant_of-self g c =
    let closed : c.self.inside.window ≡ None = closed_from c.self.inside.window (rw (← c.self.view_is) at c.requires.closed) in
    rw (c.pop.ensures.entries, closed) (c.self.invariant.0, tt, store_without c.args.key c.self.inside.tiles.entries c.self.inside.opened (rw closed at c.self.invariant.2))

pub invariant_of-self-2 : goal.invariant_of-self-2
invariant_of-self-2 g c =
    let closed : c.self.inside.window ≡ None = closed_from c.self.inside.window (rw (← c.self.view_is) at c.requires.closed) in
    rw (c.pop.ensures.entries, closed) (c.self.invariant.0, tt, store_without c.args.key c.self.inside.tiles.entries c.self.inside.opened (rw closed at c.self.invariant.2))
