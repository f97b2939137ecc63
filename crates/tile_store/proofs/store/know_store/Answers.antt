use Rattle.tile_store.proofs.Backed.{own_keys_backed}
use Rattle.tile_store.proofs.Listed.{each_found}
use Rattle.tile_store.proofs.store.know_store.Goals as goal

pub returns-clause-store : goal.returns-clause-store
returns-clause-store g c = rw (← c.store.view_is) c.store.invariant.2

pub returns-clause-keys : goal.returns-clause-keys
returns-clause-keys g c = rw (← c.store.view_is) (own_keys_backed c.store.inside.tiles.entries c.store.inside.window c.store.inside.lent c.len-count.ensures.valid.0)

pub returns-clause-tiles : goal.returns-clause-tiles
returns-clause-tiles g c = λ key. rw (← c.store.view_is) (each_found key _ c.store.invariant.2.tiles)
