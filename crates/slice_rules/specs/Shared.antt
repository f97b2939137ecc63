-- The clips that all members of a slice share, and the part of a view in which the slice shows.
use Rattle.std.specs.Prelude.{Bool, ◌&&◌, not, List, [], ◌∷◌, map, take_while, fold, Some, None, if◌then◌else◌}
use Rattle.wr_geom.specs.Bounds.{Bounds}
use Rattle.clip_masks.specs.Clips.{is_rect_clip, same_clip}
use Rattle.clip_masks.specs.Coverage.{cut_by}
use Rattle.clip_masks.specs.declared.clip.Clip.{Clip}
use Rattle.slice_rules.specs.Homes.{Home, same_home}
use Rattle.slice_rules.specs.Runs.{Run}

-- a clip and its home
abbrev pub HomedClip : Type 0
HomedClip = Clip × Home

-- whether two clips are the same and have the same home
abbrev pub same_homed : HomedClip → HomedClip → Bool
same_homed c d = same_clip c.0 d.0 && same_home c.1 d.1

-- the longest list with which both begin
abbrev pub common_start : List HomedClip → List HomedClip → List HomedClip
common_start [] ds = []
common_start (c ∷ cs) [] = []
common_start (c ∷ cs) (d ∷ ds) = if same_homed c d then c ∷ common_start cs ds else []

-- the longest list with which the clips of every member begin
abbrev pub common_clips : {T : Type 0} → (T → List HomedClip) → List T → List HomedClip
common_clips clips [] = []
common_clips clips (t ∷ ts) = fold (λ common u. common_start common (clips u)) (clips t) ts

-- whether a slice of this home may share a clip: a rectangle clip of another home
abbrev pub may_share : Home → HomedClip → Bool
may_share home c = is_rect_clip c.0 && not (same_home c.1 home)

-- of common clips, those that a slice of this home shares: without a home none, else those before the first that it may not share
abbrev pub shared_of : Home → List HomedClip → List HomedClip
shared_of None common = []
shared_of (Some h) common = take_while (may_share (Some h)) common

-- the clips that a slice shares, with their homes
abbrev pub shared_clips : {T : Type 0} → (T → List HomedClip) → Run T → List HomedClip
shared_clips clips slice = shared_of slice.home (common_clips clips slice.members)

-- the part of a view that the shared clips leave
abbrev pub shown_rect : {T : Type 0} → (T → List HomedClip) → Bounds → Run T → Bounds
shown_rect clips view slice = cut_by view (map (λ c. c.0) (shared_clips clips slice))
