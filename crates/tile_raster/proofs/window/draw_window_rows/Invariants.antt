use Rattle.std.proofs.Common.{◌≡◌, length}
use Rattle.primitives.specs.Stacks.{value_at}
use Rattle.tile_raster.specs.Lists.{entries_of}
use Rattle.tile_raster.specs.Rows.{width}
use Rattle.tile_raster.specs.Rasters.{AreWide, IsFit}
use Rattle.tile_raster.specs.Windows.{IsWindowDrawnTo}
use Rattle.tile_raster.proofs.window.draw_window_rows.Given as goal

abbrev pub invariant-loop-i : goal.invariant-loop-i
invariant-loop-i g l = record {
  drawn : IsWindowDrawnTo l.fn.tiles l.tiles l.fn.window l.i (value_at (entries_of l.drawing.entries) l.drawing.store.now);
  row : width l.row ≡ width l.fn.row;
  levels : length l.levels ≡ length l.fn.levels;
  wide : AreWide (width l.fn.row) l.levels;
  tools : IsFit (width l.fn.row) l.tools;
}
