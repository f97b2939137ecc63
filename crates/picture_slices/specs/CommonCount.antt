-- How many clips tops begin with that are the same for all.
use Rattle.std.specs.Prelude.{ℕ, min, List}
use Rattle.std.specs.List.{common_prefix_len, fold}
use Rattle.primitives.specs.declared.entry.Top.{Top}
use Rattle.slice_rules.specs.Shared.{HomedClip, same_homed}
use Rattle.picture_slices.specs.TopClips.{clips_of_top}

-- of the first clips of a list, at most this many, those with which the clips of each of these tops begin
abbrev pub common_count : List HomedClip → ℕ → List Top → ℕ
common_count clips most others = fold (λ n t. min n (common_prefix_len same_homed clips (clips_of_top t))) most others
