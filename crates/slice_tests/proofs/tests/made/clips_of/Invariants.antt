use Rattle.std.proofs.Common.{◌≡◌, length}
use Rattle.primitives.specs.Tops.{AreCloseClips}
use Rattle.slice_tests.proofs.tests.made.clips_of.Given as goal

abbrev pub invariant-loop-clipped : goal.invariant-loop-clipped
invariant-loop-clipped l = record { count : length l.made ≡ l.clipped-index; close : AreCloseClips l.made }
