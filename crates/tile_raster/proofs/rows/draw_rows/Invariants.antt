use Rattle.std.proofs.Common.{◌≡◌, ◌<◌, ℕ, pos, ◌+ℤ◌, length}
use Rattle.primitives.specs.Stacks.{value_at}
use Rattle.span_kernels.specs.PlanesModel.{pixel_at}
use Rattle.tile_raster.specs.Lists.{entries_of}
use Rattle.tile_raster.specs.Rows.{width}
use Rattle.tile_raster.specs.Rasters.{AreWide, IsFit}
use Rattle.tile_raster.proofs.rows.draw_rows.Given as goal

abbrev pub invariant-loop-y : goal.invariant-loop-y
invariant-loop-y l = record {
  across : l.out.width ≡ l.fn.out.width;
  down : l.out.height ≡ l.fn.out.height;
  done : (x v : ℕ) → x < l.out.width → v < l.y → pixel_at l.out x v ≡ value_at (entries_of l.drawing.entries) l.drawing.store.now (l.corner.x +ℤ pos x) (l.corner.y +ℤ pos v);
  row : width l.row ≡ width l.fn.row;
  levels : length l.levels ≡ length l.fn.levels;
  wide : AreWide (width l.fn.row) l.levels;
  tools : IsFit (width l.fn.row) l.tools;
}
