use Rattle.std.proofs.Common.{rules, ◌≡◌, pos, ◌-ℤ◌, Option, Some, None, subst, ap, ◌∙◌}
use Rattle.std.specs.Prelude.{IfSome}
use Rattle.wr_geom.specs.Bounds.{Bounds}
use Rattle.wr_geom.specs.declared.keys.TileKey.{TileKey}
use Rattle.blend_rules.specs.Colour.{blended}
use Rattle.blend_rules.specs.declared.mode.Mode.TheVariants.{Normal}
use Rattle.span_kernels.specs.PlanesModel.{pixel_at}
use Rattle.tile_grid.specs.declared.tile.GridTile.{GridTile}
use Rattle.tile_grid.specs.Grids.{tile_at as grid_tile}
use Rattle.tile_store.specs.declared.tile.Tile.{Tile}
use Rattle.tile_store.specs.Tiles.{tile_at}
use Rattle.tile_compositor.specs.Laid.{IsLaid}
use Rattle.tile_compositor.specs.Composition.{CanBeShown, shows_in, tile_colour}
use Rattle.tile_compositor.proofs.Slices.{unkept_painted, kept_painted}
use Rattle.tile_compositor.proofs.slice.lay_tile.Goals as goal

pub returns-in_default : goal.returns-in_default
returns-in_default g c =
    let t = grid_tile c.args.visible.now.grid c.args.index in
    let slice = c.args.slice.now.key in
    let here : c.key.result ≡ record { slice = slice; col = t.col; row = t.row } = c.key.ensures ∙ ap (λ (u : GridTile). record { slice = slice; col = u.col; row = u.row }) c.tile-tile.ensures.value in
    let none : tile_at c.key.result c.args.tiles.now.tiles ≡ None = search rules in
    unkept_painted c.args.visible.now.grid.sides c.args.tiles.now.tiles c.args.slice.now c.sides-sides.ensures.grid.sides t.col t.row c.args.planes.now c.requires.frame
    (subst (λ (k : TileKey). tile_at k c.args.tiles.now.tiles ≡ None) here none)

pub returns : goal.returns
returns g c =
    let t = grid_tile c.args.visible.now.grid c.args.index in
    let slice = c.args.slice.now.key in
    let sides = c.args.visible.now.grid.sides in
    let p = c.args.slice.now in
    let kept = c.in-Some.kept in
    let old = c.args.planes.now in
    let here : c.key.result ≡ record { slice = slice; col = t.col; row = t.row } = c.key.ensures ∙ ap (λ (u : GridTile). record { slice = slice; col = u.col; row = u.row }) c.tile-tile.ensures.value in
    let some : tile_at c.key.result c.args.tiles.now.tiles ≡ Some kept = search rules in
    let there : tile_at (record { slice = slice; col = t.col; row = t.row }) c.args.tiles.now.tiles ≡ Some kept = subst (λ (k : TileKey). tile_at k c.args.tiles.now.tiles ≡ Some kept) here some in
    let can : CanBeShown sides (record { slice = slice; col = t.col; row = t.row }) kept =
    subst (λ (o : Option (Tile _)). IfSome o (λ tile. CanBeShown sides (record { slice = slice; col = t.col; row = t.row }) tile)) there (c.requires.tiles (record { slice = slice; col = t.col; row = t.row })) in
    kept_painted sides c.args.tiles.now.tiles p c.sides-sides.ensures.grid.sides t.col t.row kept old c.lay_kept.new.planes there
    (subst (λ (b : Bounds). IsLaid (λ x y. blended Normal (tile_colour kept (pos x -ℤ p.origin.x) (pos y -ℤ p.origin.y)) (pixel_at old x y)) (shows_in p b) old c.lay_kept.new.planes) can.rect c.lay_kept.ensures)
