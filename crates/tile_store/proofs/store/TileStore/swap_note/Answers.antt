use Rattle.std.proofs.Common.{rules, ◌≡◌, Some, is_some, refl, sym}
use Rattle.tile_store.specs.Tiles.{tile_at}
use Rattle.tile_store.proofs.Listed.{store_changed}
use Rattle.tile_store.proofs.Backed.{is_some_backed, note_backed, noted_backed, open_noted, with_note}
use Rattle.tile_store.proofs.store.TileStore.swap_note.Goals as goal

pub unwrap-tile-requires : goal.unwrap-tile-requires
unwrap-tile-requires g c =
    let kept : is_some (tile_at c.args.key c.self.inside.tiles.entries) ≡ is_some (tile_at c.args.key c.args.self.now.tiles) = rw (← c.self.view_is) (sym (is_some_backed c.self.inside.tiles.entries c.self.inside.window c.self.inside.lent c.args.key)) in
    search (rules, kept)

pub invariant_of-self : goal.invariant_of-self
invariant_of-self g c =
    let here : tile_at c.args.key c.self.inside.tiles.entries ≡ Some c.unwrap-tile.result.now = search rules in (
      c.self.invariant.0,
      open_noted c.self.inside.tiles.entries c.self.inside.window c.args.key c.unwrap-tile.result.now _ here c.self.invariant.1,
      rw (noted_backed c.self.inside.tiles.entries c.self.inside.window c.self.inside.lent c.args.key c.unwrap-tile.result.now c.replace.new.dest here)
          (store_changed c.args.key (with_note c.replace.new.dest) (λ t. refl) (λ t i. record { rect = i.rect; sides = i.sides; width = i.width; height = i.height; whole = i.whole }) _ c.self.invariant.2),
    )

pub returns-clause-old : goal.returns-clause-old
returns-clause-old g c =
    let here : tile_at c.args.key c.self.inside.tiles.entries ≡ Some c.unwrap-tile.result.now = search rules in
    rw (← c.self.view_is, note_backed c.self.inside.tiles.entries c.self.inside.window c.self.inside.lent c.args.key c.unwrap-tile.result.now here) (search rules)

pub returns-clause-store : goal.returns-clause-store
returns-clause-store g c =
    let here : tile_at c.args.key c.self.inside.tiles.entries ≡ Some c.unwrap-tile.result.now = search rules in
    rw (← c.self.view_is, noted_backed c.self.inside.tiles.entries c.self.inside.window c.self.inside.lent c.args.key c.unwrap-tile.result.now c.replace.new.dest here, c.replace.ensures.after) refl
