use Rattle.std.proofs.Common.{◌-◌, ◌*◌, ◌+◌, ◌≤◌, ◌≡◌, length}
use Rattle.tile_raster.specs.Lists.{entries_of}
use Rattle.tile_raster.specs.Levels.{IsAt}
use Rattle.tile_raster.specs.Rows.{width}
use Rattle.tile_raster.specs.Rasters.{AreBegun, IsFit, IsWide, AreWide}
use Rattle.tile_raster.proofs.walk.+level.Given as goal

abbrev pub decreases-draw_level : goal.decreases-draw_level
decreases-draw_level l = 3 * length l.levels.now

abbrev pub decreases-draw_top : goal.decreases-draw_top
decreases-draw_top l = 3 * length l.deeper.now + 2

abbrev pub decreases-draw_group : goal.decreases-draw_group
decreases-draw_group l = 3 * length l.deeper.now + 1

abbrev pub invariant-draw_level-tops : goal.invariant-draw_level-tops
invariant-draw_level-tops l = record {
  left : l.level.from ≤ l.i;
  right : l.i ≤ l.level.to;
  place : IsAt (entries_of l.drawing.entries) l.level.depth l.i;
  begun : AreBegun l.drawing l.level l.strip l.i l.rows.cover l.row;
  row : width l.row ≡ width l.fn.row;
  wide : IsWide (width l.fn.row) l.rows;
  deeper : AreWide (width l.fn.row) l.deeper;
  tools : IsFit (width l.fn.row) l.tools;
}

abbrev pub decreases-draw_level-tops : goal.decreases-draw_level-tops
decreases-draw_level-tops l = l.level.to - l.i
