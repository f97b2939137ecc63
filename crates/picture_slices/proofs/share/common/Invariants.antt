use Rattle.std.proofs.Common.{◌≡◌, ◌+◌, drop}
use Rattle.std.specs.List.{common_prefix_len}
use Rattle.slice_rules.specs.Shared.{same_homed}
use Rattle.picture_slices.specs.TopClips.{clips_of_top}
use Rattle.picture_slices.proofs.share.common.Given as goal

-- those so far, and those that follow them
abbrev pub invariant-loop-i : goal.invariant-loop-i
invariant-loop-i l =
    common_prefix_len same_homed (clips_of_top l.first) (clips_of_top l.top) ≡ l.i + common_prefix_len same_homed (drop l.i (clips_of_top l.first)) (drop l.i (clips_of_top l.top))
