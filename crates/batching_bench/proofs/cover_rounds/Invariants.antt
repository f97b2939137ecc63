use Rattle.std.proofs.Common.{◌≡◌, length}
use Rattle.batching_bench.proofs.cover_rounds.Given as goal

abbrev pub invariant-loop : goal.invariant-loop
invariant-loop l = length l.cover ≡ length l.initial.cover
