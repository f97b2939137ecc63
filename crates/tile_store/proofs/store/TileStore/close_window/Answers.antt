use Rattle.std.proofs.Common.{rules, ◌≡◌, Some, refl}
use Rattle.tile_store.specs.Tiles.{tile_at}
use Rattle.tile_store.specs.Within.{with_planes}
use Rattle.tile_store.proofs.Listed.{set_is_changed}
use Rattle.tile_store.proofs.store.TileStore.close_window.Goals as goal

pub invariant_of-self : goal.invariant_of-self
invariant_of-self g c =
    let win : c.self.inside.window ≡ Some c.unwrap-current.result = search rules in
    let here : tile_at c.unwrap-current.result.window.key c.self.inside.tiles.entries ≡ Some c.unwrap-tile.result.now = search rules in
    let old = rw win at c.self.invariant.2 in
    rw (c.swap.ensures.x_after, set_is_changed c.unwrap-current.result.window.key (with_planes c.self.inside.lent) c.self.inside.tiles.entries c.unwrap-tile.result.now here)
    (c.self.invariant.0, tt, record { count = old.count; tiles = old.tiles; window = tt })

pub returns : goal.returns
returns g c =
    let win : c.self.inside.window ≡ Some c.unwrap-current.result = search rules in
    let here : tile_at c.unwrap-current.result.window.key c.self.inside.tiles.entries ≡ Some c.unwrap-tile.result.now = search rules in
    rw (← c.self.view_is, win, c.swap.ensures.x_after, set_is_changed c.unwrap-current.result.window.key (with_planes c.self.inside.lent) c.self.inside.tiles.entries c.unwrap-tile.result.now here) refl
