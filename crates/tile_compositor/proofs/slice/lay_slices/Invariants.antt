use Rattle.std.proofs.Common.{◌≡◌, ◌<◌, ℕ, pos, drop}
use Rattle.span_kernels.specs.PlanesModel.{pixel_at}
use Rattle.tile_compositor.specs.Laid.{AreAllPixels, KeepSides}
use Rattle.tile_compositor.specs.Composition.{composed}
use Rattle.tile_compositor.proofs.slice.lay_slices.Given as goal

-- what is left, over what is laid, is all over the first frame
abbrev pub invariant-loop-slice : goal.invariant-loop-slice
invariant-loop-slice g l = record {
  sides : KeepSides l.fn.planes l.planes;
  value : (x y : ℕ) → x < l.fn.planes.width → y < l.fn.planes.height
      → composed l.sides l.tiles.tiles (drop l.slice-index l.placed) (pos x) (pos y) (pixel_at l.planes x y) ≡ composed l.sides l.tiles.tiles l.placed (pos x) (pos y) (pixel_at l.fn.planes x y);
  pixels : AreAllPixels l.planes;
}
