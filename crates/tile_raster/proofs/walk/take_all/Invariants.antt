use Rattle.std.proofs.Common.{◌≡◌, ◌≤◌, ◌-◌}
use Rattle.tile_raster.specs.Lists.{entries_of}
use Rattle.tile_raster.specs.Levels.{IsAt}
use Rattle.tile_raster.specs.Rows.{width}
use Rattle.tile_raster.specs.Rasters.{AreBegun, IsFit, IsWide}
use Rattle.tile_raster.proofs.walk.take_all.Given as goal

abbrev pub invariant-tops : goal.invariant-tops
invariant-tops l = record {
  left : l.level.from ≤ l.i;
  right : l.i ≤ l.level.to;
  place : IsAt (entries_of l.drawing.entries) l.level.depth l.i;
  begun : AreBegun l.drawing l.level l.strip l.level.from l.rows.cover l.row;
  row : width l.row ≡ width l.fn.row;
  wide : IsWide (width l.fn.row) l.rows;
  tools : IsFit (width l.fn.row) l.tools;
}

abbrev pub decreases-tops : goal.decreases-tops
decreases-tops l = l.i - l.level.from
