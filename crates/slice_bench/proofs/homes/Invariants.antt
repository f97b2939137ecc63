use Rattle.std.proofs.Common.{◌≡◌, length}
use Rattle.slice_bench.proofs.homes.Given as goal

abbrev pub invariant-loop : goal.invariant-loop
invariant-loop l = length l.homes ≡ l.counter
