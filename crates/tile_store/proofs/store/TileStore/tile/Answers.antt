use Rattle.std.proofs.Common.{rules, ◌≡◌, Some, None, true, false, refl}
use Rattle.tile_store.specs.Tiles.{tile_at}
use Rattle.tile_store.proofs.Backed.{seen_none, seen_open, seen_else, is_open}
use Rattle.tile_store.proofs.Listed.{tile_in}
use Rattle.tile_store.proofs.store.TileStore.tile.Goals as goal
use Rattle.tile_store.proofs.store.TileStore.tile.Goals.{then-is_open, else-is_open}

pub returns-in_err-tile : goal.returns-in_err-tile
returns-in_err-tile g c =
    let none : tile_at c.args.key c.self.inside.tiles.entries ≡ None = search rules in
    rw (c.from_residual.ensures, ← c.self.view_is, seen_none c.self.inside.tiles.entries c.self.inside.window c.self.inside.lent c.args.key none) refl

pub new-requires : goal.new-requires
new-requires g c =
    let here : tile_at c.args.key c.self.inside.tiles.entries ≡ Some c.in_ok-tile.tile.now = search rules in
    elim c.if-is_open.branch [
      | then-is_open w ↦
          let is : is_open c.self.inside.window c.args.key ≡ true = search rules in
          rw w.planes-is (tile_in c.args.key _ _ c.self.invariant.2.tiles (seen_open _ c.self.inside.window c.self.inside.lent c.args.key _ here is))
      | else-is_open w ↦
          let is : is_open c.self.inside.window c.args.key ≡ false = search rules in
          rw w.planes-is (tile_in c.args.key _ _ c.self.invariant.2.tiles (seen_else _ c.self.inside.window c.self.inside.lent c.args.key _ here is))
    ]

pub returns : goal.returns
returns g c =
    let here : tile_at c.args.key c.self.inside.tiles.entries ≡ Some c.in_ok-tile.tile.now = search rules in
    elim c.if-is_open.branch [
      | then-is_open w ↦
          let is : is_open c.self.inside.window c.args.key ≡ true = search rules in
          rw (c.new.ensures, w.planes-is, ← c.self.view_is, seen_open _ c.self.inside.window c.self.inside.lent c.args.key _ here is) refl
      | else-is_open w ↦
          let is : is_open c.self.inside.window c.args.key ≡ false = search rules in
          rw (c.new.ensures, w.planes-is, ← c.self.view_is, seen_else _ c.self.inside.window c.self.inside.lent c.args.key _ here is) refl
    ]
