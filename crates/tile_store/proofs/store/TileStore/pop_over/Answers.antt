use Rattle.std.proofs.Common.{◌≡◌, None}
use Rattle.tile_store.proofs.Listed.{store_taken}
use Rattle.tile_store.proofs.Backed.{closed_from}
use Rattle.tile_store.proofs.store.TileStore.pop_over.Goals as goal

pub invariant_of-self-2 : goal.invariant_of-self-2
invariant_of-self-2 g c =
    let closed : c.self.inside.window ≡ None = closed_from c.self.inside.window (rw (← c.self.view_is) at c.requires.closed) in
    rw (c.in_ok-key.ensures.entries, closed) (c.self.invariant.0, tt, store_taken _ c.self.inside.tiles.entries c.self.inside.opened (rw closed at c.self.invariant.2))
