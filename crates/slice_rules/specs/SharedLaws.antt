-- What holds of the clips that a slice shares, as laws on the definitions.
use Rattle.std.specs.Prelude.{◌≡◌, ◌≢◌, List, [], ◌++◌, All, None}
use Rattle.wr_geom.specs.Bounds.{Bounds}
use Rattle.clip_masks.specs.Clips.{IsRectClip}
use Rattle.slice_rules.specs.Homes.{Home}
use Rattle.slice_rules.specs.Runs.{Run, mapped}
use Rattle.slice_rules.specs.Shared.{HomedClip, shared_clips, shown_rect}

-- one list of clips with homes begins the other
abbrev pub IsClipPrefix : List HomedClip → List HomedClip → Type 0
IsClipPrefix first whole = (rest : List HomedClip) × (whole ≡ first ++ rest)

-- it begins the clips of each of these members
abbrev pub BeginsEach : {T : Type 0} → (T → List HomedClip) → List HomedClip → List T → Type 0
BeginsEach clips first ts = All (λ t. IsClipPrefix first (clips t)) ts

-- a rectangle clip of another home than this
pub record IsSharable (home : Home) (c : HomedClip) : Type 0 where
  pub rect : IsRectClip c.0
  pub elsewhere : c.1 ≢ home

-- the shared clips stand at the beginning of every member's clips
abbrev pub SharedBeginEach : Type 0 → Type 0
SharedBeginEach T = (clips : T → List HomedClip) (slice : Run T) → BeginsEach clips (shared_clips clips slice) slice.members

-- each is a rectangle clip, and its home is not the slice's
abbrev pub SharedAreSharable : Type 0 → Type 0
SharedAreSharable T = (clips : T → List HomedClip) (slice : Run T) → All (IsSharable slice.home) (shared_clips clips slice)

-- and of a slice with a home they are the most: they begin with any clips of which this holds too
abbrev pub SharedAreMost : Type 0 → Type 0
SharedAreMost T =
    (clips : T → List HomedClip) (slice : Run T) (first : List HomedClip)
    → slice.home ≢ None → slice.members ≢ [] → BeginsEach clips first slice.members → All (IsSharable slice.home) first
    → IsClipPrefix first (shared_clips clips slice)

-- a slice without a home shares none
abbrev pub HomelessShareNone : Type 0 → Type 0
HomelessShareNone T = (clips : T → List HomedClip) (slice : Run T) → slice.home ≡ None → shared_clips clips slice ≡ []

-- where each has the clips of what stands in its place, a slice shares the same clips
abbrev pub SharedOfMapped : Type 0 → Type 0 → Type 0
SharedOfMapped A B =
    (f : A → B) (clips : A → List HomedClip) (clips_there : B → List HomedClip) (slice : Run A)
    → All (λ t. clips_there (f t) ≡ clips t) slice.members
    → shared_clips clips_there (mapped f slice) ≡ shared_clips clips slice

-- and it shows in the same part of a view
abbrev pub ShownOfMapped : Type 0 → Type 0 → Type 0
ShownOfMapped A B =
    (f : A → B) (clips : A → List HomedClip) (clips_there : B → List HomedClip) (view : Bounds) (slice : Run A)
    → All (λ t. clips_there (f t) ≡ clips t) slice.members
    → shown_rect clips_there view (mapped f slice) ≡ shown_rect clips view slice
