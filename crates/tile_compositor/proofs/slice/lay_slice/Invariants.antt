use Rattle.std.proofs.Common.{◌≤◌, pos}
use Rattle.blend_rules.specs.Colour.{blended}
use Rattle.blend_rules.specs.declared.mode.Mode.TheVariants.{Normal}
use Rattle.span_kernels.specs.PlanesModel.{pixel_at}
use Rattle.tile_grid.specs.Grids.{count_of}
use Rattle.tile_compositor.specs.Laid.{AreAllPixels}
use Rattle.tile_compositor.specs.Composition.{placed_colour}
use Rattle.tile_compositor.proofs.Slices.{AreLaid}
use Rattle.tile_compositor.proofs.slice.lay_slice.Given as goal

-- the tiles so far are laid
abbrev pub invariant-loop-index : goal.invariant-loop-index
invariant-loop-index g l = record {
  laid : AreLaid (λ x y. blended Normal (placed_colour l.fn.sides l.tiles.tiles l.slice (pos x) (pos y)) (pixel_at l.fn.planes x y)) l.slice l.visible.grid l.index l.fn.planes l.planes;
  pixels : AreAllPixels l.planes;
  high : l.index ≤ count_of l.visible.grid;
}
