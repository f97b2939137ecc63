use Rattle.std.proofs.Common.{◌≤◌, ◌<◌, ℕ, get_or}
use Rattle.kernel_tests.proofs.rows.put_below.Given as goal

abbrev pub invariant-loop-i : goal.invariant-loop-i
invariant-loop-i l = record { below : (k : ℕ) → k < l.i → get_or l.row k 0 ≤ get_or l.most k 0 }
