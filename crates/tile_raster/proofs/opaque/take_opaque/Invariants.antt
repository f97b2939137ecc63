use Rattle.std.proofs.Common.{◌≡◌, ◌≤◌, ◌-◌, length}
use Rattle.tile_raster.specs.Rasters.{AreTaken}
use Rattle.tile_raster.proofs.opaque.take_opaque.Given as goal

abbrev pub invariant-parts : goal.invariant-parts
invariant-parts l = record {
  left : l.shown.from ≤ l.next;
  right : l.next ≤ l.shown.to;
  taken : AreTaken l.noted (record { first = l.strip.first; span = record { from = l.shown.from; to = l.next } }) l.fn.cover l.cover l.fn.row l.row;
  mask : length l.mask.items ≡ length l.fn.mask.items;
}

abbrev pub decreases-parts : goal.decreases-parts
decreases-parts l = l.shown.to - l.next
