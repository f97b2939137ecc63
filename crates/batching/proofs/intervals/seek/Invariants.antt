use Rattle.std.proofs.Common.{◌≡◌, ◌≤◌, ◌<◌, ℕ, not}
use Rattle.batching.specs.Intervals.{depth_in, passes, IsFrom}
use Rattle.batching.proofs.intervals.seek.Given as goal

abbrev pub invariant-loop-interval : goal.invariant-loop-interval
invariant-loop-interval l = record {
  left : l.fn.spot.x ≤ l.x;
  right : l.x ≤ l.to;
  from : IsFrom l.intervals l.interval l.x;
  before : (k : ℕ) → l.fn.spot.x ≤ k → k < l.x → passes l.limit (depth_in l.intervals k) ≡ not l.sought;
}
