use Rattle.std.proofs.Common.{◌≡◌, ◌+◌, drop}
use Rattle.std.specs.List.{prefix_len}
use Rattle.slice_rules.specs.Shared.{may_share}
use Rattle.picture_slices.specs.TopClips.{clips_of_top}
use Rattle.picture_slices.proofs.share.sharable.Given as goal

-- those so far, and those that follow them
abbrev pub invariant-loop-i : goal.invariant-loop-i
invariant-loop-i l = prefix_len (may_share l.home) (clips_of_top l.top) ≡ l.i + prefix_len (may_share l.home) (drop l.i (clips_of_top l.top))
