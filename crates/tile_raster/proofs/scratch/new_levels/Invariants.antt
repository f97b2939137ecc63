use Rattle.std.proofs.Common.{◌≡◌, length}
use Rattle.tile_raster.specs.Rasters.{AreWide}
use Rattle.tile_raster.proofs.scratch.new_levels.Given as goal

abbrev pub invariant-loop : goal.invariant-loop
invariant-loop l = record {
  count : length l.levels.items ≡ l.counter;
  wide : AreWide l.width l.levels.items;
}
