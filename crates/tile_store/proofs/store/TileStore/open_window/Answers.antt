use Rattle.std.proofs.Common.{rules, ◌≡◌, Some, None, refl}
use Rattle.tile_store.specs.Tiles.{tile_at}
use Rattle.tile_store.proofs.Backed.{closed_from, opened_backed, opened_in}
use Rattle.tile_store.proofs.store.TileStore.open_window.Goals as goal

pub invariant_of-self : goal.invariant_of-self
invariant_of-self g c =
    let here : tile_at c.args.key c.self.inside.tiles.entries ≡ Some c.unwrap-kept.result.now = search rules in
    let closed : c.self.inside.window ≡ None = closed_from c.self.inside.window (rw (← c.self.view_is) at c.requires.closed) in
    let old = rw closed at c.self.invariant.2 in
    let inside = rw (← c.self.view_is, closed) at c.requires.inside in
    rw (c.swap.ensures.x_after, c.swap.ensures.y_after, opened_backed c.self.inside.tiles.entries (record { window = record { key = c.args.key; rect = c.args.rect }; tile = c.unwrap-kept.result.now.rect }) c.self.inside.lent c.unwrap-kept.result.now here) (
      c.self.invariant.0,
      opened_in c.self.inside.tiles.entries (record { window = record { key = c.args.key; rect = c.args.rect }; tile = c.unwrap-kept.result.now.rect }) c.self.inside.lent c.unwrap-kept.result.now here refl,
      record { count = old.count; tiles = old.tiles; window = inside },
    )

pub returns : goal.returns
returns g c =
    let here : tile_at c.args.key c.self.inside.tiles.entries ≡ Some c.unwrap-kept.result.now = search rules in
    let closed : c.self.inside.window ≡ None = closed_from c.self.inside.window (rw (← c.self.view_is) at c.requires.closed) in
    rw (← c.self.view_is, closed, c.swap.ensures.x_after, c.swap.ensures.y_after, opened_backed c.self.inside.tiles.entries (record { window = record { key = c.args.key; rect = c.args.rect }; tile = c.unwrap-kept.result.now.rect }) c.self.inside.lent c.unwrap-kept.result.now here) (search rules)
