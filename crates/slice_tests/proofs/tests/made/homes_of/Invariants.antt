use Rattle.std.proofs.Common.{◌≡◌, length}
use Rattle.slice_tests.proofs.tests.made.homes_of.Given as goal

abbrev pub invariant-loop-clipped : goal.invariant-loop-clipped
invariant-loop-clipped l = length l.made ≡ l.clipped-index
