use Rattle.std.proofs.Common.{◌≡◌, length}
use Rattle.batching_tests.proofs.pairs.pairs_agree.Given as goal

abbrev pub invariant-loop-x0 : goal.invariant-loop-x0
invariant-loop-x0 l = length l.cover ≡ 12

abbrev pub invariant-loop-x1 : goal.invariant-loop-x1
invariant-loop-x1 l = length l.cover ≡ 12
