use Rattle.std.proofs.Common.{◌≡◌, ◌≤◌, drop}
use Rattle.picture_slices.specs.CommonCount.{common_count}
use Rattle.picture_slices.specs.TopClips.{clips_of_top}
use Rattle.picture_slices.proofs.share.common_to_others.Given as goal

-- what is left from here gives what all give from the start
abbrev pub invariant-loop-top : goal.invariant-loop-top
invariant-loop-top l = record {
  within : l.shared ≤ l.most;
  value : common_count (clips_of_top l.first) l.shared (drop l.top-index l.others) ≡ common_count (clips_of_top l.first) l.most l.others;
}
