use Rattle.std.proofs.Common.{rules, ◌≡◌, ◌-◌, Some, refl, to_z-of_z, arith}
use Rattle.wr_geom.specs.Bounds.{width_of}
use Rattle.tile_store.specs.Tiles.{HasRow, row_of}
use Rattle.tile_store.specs.Windows.{HasWindowRow}
use Rattle.tile_store.proofs.Ready.{ready, row_backed, written_backed, store_written, within, row_within, down_from}
use Rattle.tile_store.proofs.store.TileStore.row_mut.Goals as goal

pub columns_in-from-requires-clause-sides : goal.columns_in-from-requires-clause-sides
columns_in-from-requires-clause-sides g c =
    let win : c.self.inside.window ≡ Some c.unwrap-window.result = search rules in
    (ready c.self.inside.tiles.entries c.unwrap-window.result c.self.inside.lent c.self.inside.opened (rw win at c.self.invariant.1) (rw win at c.self.invariant.2)).sides

pub columns_in-from-requires-clause-inside : goal.columns_in-from-requires-clause-inside
columns_in-from-requires-clause-inside g c =
    let win : c.self.inside.window ≡ Some c.unwrap-window.result = search rules in
    (ready c.self.inside.tiles.entries c.unwrap-window.result c.self.inside.lent c.self.inside.opened (rw win at c.self.invariant.1) (rw win at c.self.invariant.2)).covers

pub row_in-requires-clause-sides : goal.row_in-requires-clause-sides
row_in-requires-clause-sides g c =
    let win : c.self.inside.window ≡ Some c.unwrap-window.result = search rules in
    (ready c.self.inside.tiles.entries c.unwrap-window.result c.self.inside.lent c.self.inside.opened (rw win at c.self.invariant.1) (rw win at c.self.invariant.2)).sides

pub row_in-requires-clause-row : goal.row_in-requires-clause-row
row_in-requires-clause-row g c =
    let win : c.self.inside.window ≡ Some c.unwrap-window.result = search rules in
    let r = ready c.self.inside.tiles.entries c.unwrap-window.result c.self.inside.lent c.self.inside.opened (rw win at c.self.invariant.1) (rw win at c.self.invariant.2) in
    let asked : HasWindowRow (Some c.unwrap-window.result.window) c.args.y = rw (← c.self.view_is, win) at c.requires in
    let row : HasRow c.unwrap-window.result.tile c.args.y = row_within c.unwrap-window.result.tile c.unwrap-window.result.window.rect c.args.y
    (within c.unwrap-window.result.tile c.unwrap-window.result.window.rect r.covers asked.0 (down_from c.unwrap-window.result.window.rect c.args.y asked.1)) asked.1 in
    search (rules, to_z-of_z, row)

pub row_mut-requires-clause-row : goal.row_mut-requires-clause-row
row_mut-requires-clause-row g c =
    let win : c.self.inside.window ≡ Some c.unwrap-window.result = search rules in
    rw (ready c.self.inside.tiles.entries c.unwrap-window.result c.self.inside.lent c.self.inside.opened (rw win at c.self.invariant.1) (rw win at c.self.invariant.2)).height c.row_in.ensures.inside

pub row_mut-requires-clause-inside : goal.row_mut-requires-clause-inside
row_mut-requires-clause-inside g c =
    let win : c.self.inside.window ≡ Some c.unwrap-window.result = search rules in
    rw (ready c.self.inside.tiles.entries c.unwrap-window.result c.self.inside.lent c.self.inside.opened (rw win at c.self.invariant.1) (rw win at c.self.invariant.2)).width c.columns_in-from.ensures.inside

pub invariant_of-self-lent : goal.invariant_of-self-lent
invariant_of-self-lent g c = λ bytes.
    let win : c.self.inside.window ≡ Some c.unwrap-window.result = search rules in
    let at : c.row_in.result ≡ row_of c.unwrap-window.result.tile c.args.y = search (rules, to_z-of_z) in
    rw (win, at, c.columns_in-from.ensures.from)
    (c.self.invariant.0, rw win at c.self.invariant.1, store_written c.self.inside.tiles.entries c.unwrap-window.result c.self.inside.lent c.self.inside.opened c.args.p c.args.y bytes (rw win at c.self.invariant.1) (rw win at c.self.invariant.2))

pub returns : goal.returns
returns g c =
    let win : c.self.inside.window ≡ Some c.unwrap-window.result = search rules in
    let at : c.row_in.result ≡ row_of c.unwrap-window.result.tile c.args.y = search (rules, to_z-of_z) in
    let kept = rw win at c.self.invariant.1 in
    let to = c.columns_in-from.ensures.to in
    let wide : c.columns_in-from.result.1 - c.columns_in-from.result.0 ≡ width_of c.unwrap-window.result.window.rect = omega (arith, to) in (
      (refl, λ bytes. rw (← c.self.view_is, win, at, c.columns_in-from.ensures.from) (written_backed c.self.inside.tiles.entries c.unwrap-window.result c.self.inside.lent c.self.inside.opened c.args.p c.args.y bytes kept)),
      record {
        writes_back = tt;
        value = rw (← c.self.view_is, win, row_backed c.self.inside.tiles.entries c.unwrap-window.result c.self.inside.lent c.self.inside.opened c.args.p c.args.y kept, c.row_mut.ensures.value, wide, at, c.columns_in-from.ensures.from) refl;
        len = rw (← c.self.view_is, win, c.row_mut.ensures.len, wide) refl;
      },
    )
