use Rattle.std.proofs.Common.{◌≡◌, ◌+◌, drop, length}
use Rattle.kept_tiles.specs.Work.{frame_tiles}
use Rattle.kept_tiles_tests.proofs.fits.have_room.Given as goal

abbrev pub invariant-loop-slice : goal.invariant-loop-slice
invariant-loop-slice l = record {
  sum : l.count + length (frame_tiles l.sides (drop l.slice-index l.slices)) ≡ length l.kept.store.tiles + length (frame_tiles l.sides l.slices);
}
