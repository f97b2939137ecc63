use Rattle.std.proofs.Common.{◌≤◌, sym, ◌∙◌, arith}
use Rattle.tile_store.specs.declared.limits.TheConstants.{MAX_TILES}
use Rattle.tile_store.proofs.Backed.{length_backed}
use Rattle.tile_store.proofs.store.TileStore.len.Goals as goal

pub overflow_cast-result : goal.overflow_cast-result
overflow_cast-result g c =
    let same = length_backed c.self.inside.tiles.entries c.self.inside.window c.self.inside.lent in
    let most : c.len.result ≤ MAX_TILES = rw (c.len.ensures.len, ← same) c.self.invariant.2.count in
    omega arith

pub returns-clause-value : goal.returns-clause-value
returns-clause-value g c = rw (← c.self.view_is) (c.len.ensures.len ∙ sym (length_backed c.self.inside.tiles.entries c.self.inside.window c.self.inside.lent))

pub returns-clause-most : goal.returns-clause-most
returns-clause-most g c =
    let same = length_backed c.self.inside.tiles.entries c.self.inside.window c.self.inside.lent in
    rw (c.len.ensures.len, ← same) c.self.invariant.2.count
