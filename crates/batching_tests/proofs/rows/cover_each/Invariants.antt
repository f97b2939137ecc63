use Rattle.std.proofs.Common.{◌≡◌, length}
use Rattle.batching_tests.proofs.rows.cover_each.Given as goal

abbrev pub invariant-loop-x : goal.invariant-loop-x
invariant-loop-x l = length l.cover ≡ length l.initial.cover
