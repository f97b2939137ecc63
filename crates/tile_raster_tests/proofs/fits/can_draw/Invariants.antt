use Rattle.std.proofs.Common.{◌-◌, ◌≤◌, length, drop, IsTrue}
use Rattle.primitives.specs.Stacks.{balanced, is_shallow}
use Rattle.tile_raster_tests.proofs.fits.can_draw.Given as goal

abbrev pub invariant-entries : goal.invariant-entries
invariant-entries l = record {
  right : l.i ≤ length l.entries;
  few : l.opened ≤ 64;
  balanced : IsTrue (balanced l.opened (drop l.i l.entries)) → IsTrue (balanced 0 l.entries);
  shallow : IsTrue (is_shallow (64 - l.opened) (drop l.i l.entries)) → IsTrue (is_shallow 64 l.entries);
}

abbrev pub decreases-entries : goal.decreases-entries
decreases-entries l = length l.entries - l.i
