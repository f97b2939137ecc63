use Rattle.std.proofs.Common.{◌≡◌, ℕ, pos, IsTrue, subst, sym, ap, ◌∙◌, arith}
use Rattle.std.proofs.lemmas.Bool.{not-false}
use Rattle.wr_geom.specs.Bounds.{has_points}
use Rattle.blend_rules.specs.Colour.{blended}
use Rattle.blend_rules.specs.declared.mode.Mode.TheVariants.{Normal}
use Rattle.span_kernels.specs.PlanesModel.{pixel_at}
use Rattle.tile_grid.specs.declared.tile.TileSides.{TileSides}
use Rattle.tile_grid.specs.Tiles.{AreTileSides}
use Rattle.tile_grid.specs.Grids.{GridModel, count_of, in_slice, tile_at as grid_tile}
use Rattle.tile_compositor.specs.Laid.{IsLaid}
use Rattle.tile_compositor.specs.Composition.{CanAllBeShown, shows_in, placed_colour}
use Rattle.tile_compositor.proofs.Moves.{slice_points}
use Rattle.tile_compositor.proofs.Tiles.{grid_sides}
use Rattle.tile_compositor.proofs.Slices.{AreLaid, below_clear, hidden_colour, laid_pixels, none_laid, one_more_laid, placed_in, slice_laid}
use Rattle.tile_compositor.proofs.slice.lay_slice.Goals as goal

pub returns-then-is_empty-clause-value : goal.returns-then-is_empty-clause-value
returns-then-is_empty-clause-value g c x y hx hy =
    let p = c.args.slice.now in
    let none = c.is_empty.ensures.points.0 c.if-is_empty.true (pos x) (pos y) in
    below_clear (placed_colour c.args.sides c.args.tiles.now.tiles p (pos x) (pos y)) (pixel_at c.args.planes.now x y)
    (hidden_colour c.args.sides c.args.tiles.now.tiles p c.requires.sides (pos x) (pos y) none) (c.requires.frame x y hx hy)

pub loop-index-init : goal.loop-index-init
loop-index-init g c = record {
  laid = none_laid (λ x y. blended Normal (placed_colour c.args.sides c.args.tiles.now.tiles c.args.slice.now (pos x) (pos y)) (pixel_at c.args.planes.now x y)) c.args.slice.now c.visible_of-visible.result.grid c.args.planes.now;
  pixels = c.requires.frame;
  high = omega arith;
}

pub lay_tile-requires-clause-slice : goal.lay_tile-requires-clause-slice
lay_tile-requires-clause-slice g c = placed_in c.args.slice.now c.args.planes.now c.loop-index.planes c.loop-index.invariant.laid.sides c.requires.slice

pub lay_tile-requires-clause-tiles : goal.lay_tile-requires-clause-tiles
lay_tile-requires-clause-tiles g c =
    let p = c.args.slice.now in
    let same : c.visible_of-visible.result.grid.sides ≡ c.args.sides = ap (λ (h : GridModel). h.sides) c.visible_of-visible.ensures.grid ∙ grid_sides c.args.sides (in_slice p.shown p.origin) in
    subst (λ (s : TileSides). CanAllBeShown s c.args.tiles.now.tiles) (sym same) c.requires.tiles

pub lay_tile-requires-clause-frame : goal.lay_tile-requires-clause-frame
lay_tile-requires-clause-frame g c = c.loop-index.invariant.pixels

pub loop-index-preserved : goal.loop-index-preserved
loop-index-preserved g c =
    let p = c.args.slice.now in
    let grid = c.visible_of-visible.result.grid in
    let mid = c.loop-index.planes in
    let new = c.lay_tile.new.planes in
    let tiles = c.args.tiles.now.tiles in
    let index = c.loop-index.index in
    let same : grid.sides ≡ c.args.sides = ap (λ (h : GridModel). h.sides) c.visible_of-visible.ensures.grid ∙ grid_sides c.args.sides (in_slice p.shown p.origin) in
    let painted : IsLaid (λ x y. blended Normal (placed_colour c.args.sides tiles p (pos x) (pos y)) (pixel_at mid x y)) (shows_in p (grid_tile grid index).rect) mid new =
    subst (λ (s : TileSides). IsLaid (λ x y. blended Normal (placed_colour s tiles p (pos x) (pos y)) (pixel_at mid x y)) (shows_in p (grid_tile grid index).rect) mid new) same c.lay_tile.ensures in
    record {
      laid = one_more_laid p grid (subst AreTileSides (sym same) c.requires.sides) (λ x y. placed_colour c.args.sides tiles p (pos x) (pos y)) index c.args.planes.now mid new c.loop-index.invariant.laid painted;
      pixels = laid_pixels c.args.sides tiles p c.requires.sides c.requires.tiles (grid_tile grid index).rect mid new c.loop-index.invariant.pixels painted;
      high = omega (arith, c.count-index-end.ensures.value);
    }

pub returns-clause-sides : goal.returns-clause-sides
returns-clause-sides g c = c.loop-index.invariant.laid.sides

pub returns-clause-value : goal.returns-clause-value
returns-clause-value g c =
    let p = c.args.slice.now in
    let grid = c.visible_of-visible.result.grid in
    let old = c.args.planes.now in
    let new = c.loop-index.planes in
    let tiles = c.args.tiles.now.tiles in
    let end : c.loop-index.index ≡ count_of grid = omega (arith, c.loop-index.invariant.high, c.count-index-end.ensures.value) in
    let points : IsTrue (has_points p.shown) = not-false (has_points p.shown) (sym c.is_empty.ensures.value ∙ c.if-is_empty.false) in
    let all = subst (λ (n : ℕ). AreLaid (λ x y. blended Normal (placed_colour c.args.sides tiles p (pos x) (pos y)) (pixel_at old x y)) p grid n old new) end c.loop-index.invariant.laid in
    slice_laid c.args.sides tiles p c.requires.sides (slice_points p.shown p.origin points) old new c.requires.frame
    (subst (λ (h : GridModel). AreLaid (λ x y. blended Normal (placed_colour c.args.sides tiles p (pos x) (pos y)) (pixel_at old x y)) p h (count_of h) old new) c.visible_of-visible.ensures.grid all)

pub returns-clause-pixels : goal.returns-clause-pixels
returns-clause-pixels g c = c.loop-index.invariant.pixels
