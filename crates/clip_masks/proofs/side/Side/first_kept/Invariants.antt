use Rattle.std.proofs.Common.{◌≡◌, ◌≤◌, ◌<◌, ℕ, ◌-◌, true, false}
use Rattle.clip_masks.specs.Corners.{side_excludes}
use Rattle.clip_masks.proofs.side.Side.first_kept.Given as goal

abbrev pub invariant-halve : goal.invariant-halve
invariant-halve l = record {
  order : l.low ≤ l.high;
  within : l.high ≤ l.reach;
  before : (k : ℕ) → k < l.low → side_excludes l.self k l.i ≡ true;
  after : (k : ℕ) → l.high ≤ k → side_excludes l.self k l.i ≡ false;
}

abbrev pub decreases-halve : goal.decreases-halve
decreases-halve l = l.high - l.low
