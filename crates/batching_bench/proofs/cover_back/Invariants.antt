use Rattle.std.proofs.Common.{◌≡◌, length}
use Rattle.batching_bench.proofs.cover_back.Given as goal

abbrev pub invariant-loop-k : goal.invariant-loop-k
invariant-loop-k l = length l.cover ≡ length l.initial.cover
