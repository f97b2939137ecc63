-- The slices of a list of tops.
use Rattle.std.specs.Prelude.{ℕ, pos, neg_ℤ, List, [], ◌∷◌, ◌++◌, map, length, zip, Some}
use Rattle.wr_geom.specs.Bounds.{Bounds}
use Rattle.wr_geom.specs.declared.keys.SliceKey.{SliceKey}
use Rattle.wr_geom.specs.declared.point.Point.{Point}
use Rattle.primitives.specs.declared.entry.Entry.{Entry}
use Rattle.primitives.specs.declared.entry.Top.{Top}
use Rattle.primitives.specs.Clipping.{without_clips}
use Rattle.primitives.specs.Moves.{shifted_entries}
use Rattle.slice_rules.specs.Homes.{Home}
use Rattle.slice_rules.specs.Runs.{Run, slices_of}
use Rattle.slice_rules.specs.Keys.{slice_keys}
use Rattle.slice_rules.specs.Shared.{shared_clips, shown_rect}
use Rattle.picture_slices.specs.TopClips.{home_of_top, clips_of_top}
use Rattle.picture_slices.specs.declared.slice.Slice.{Slice}

-- entries, of which the first one loses its first n clips
abbrev pub first_without : ℕ → List Entry → List Entry
first_without n [] = []
first_without n (e ∷ es) = without_clips e n ∷ es

-- the entries of tops, each top's first one without its first n clips
abbrev pub entries_without : ℕ → List Top → List Entry
entries_without n [] = []
entries_without n (t ∷ ts) = first_without n t.entries ++ entries_without n ts

-- where the coordinates of a slice of this home begin: at the origin of its first top, or without a home at (0, 0)
abbrev pub origin_of : Home → List Top → Point
origin_of (Some h) (t ∷ ts) = t.origin
origin_of home ts = record { x = pos 0; y = pos 0 }

-- the way back from a point to (0, 0)
abbrev pub back_from : Point → Point
back_from p = record { x = neg_ℤ p.x; y = neg_ℤ p.y }

-- the entries of a slice in its own coordinates, without the clips that its tops share
abbrev pub slice_entries : Run Top → List Entry
slice_entries run =
    shifted_entries (entries_without (length (shared_clips clips_of_top run)) run.members) (back_from (origin_of run.home run.members))

-- a run of tops as a slice with this key
abbrev pub slice_of : Bounds → SliceKey → Run Top → Slice
slice_of view key run = record {
  key = key;
  origin = origin_of run.home run.members;
  shown = shown_rect clips_of_top view run;
  entries = slice_entries run;
}

-- runs of tops as slices, each with its key
abbrev pub keyed_slices : Bounds → List SliceKey → List (Run Top) → List Slice
keyed_slices view keys runs = map (λ s. slice_of view s.0 s.1) (zip keys runs)

-- the tops in slices, in order
abbrev pub top_slices : List Top → List (Run Top)
top_slices tops = slices_of home_of_top tops

-- the slices of the picture in a view, back to front
abbrev pub picture_slices : Bounds → List Top → List Slice
picture_slices view tops = keyed_slices view (slice_keys (top_slices tops)) (top_slices tops)
