-- What holds of placed clips, in every display list.
use Rattle.std.specs.Prelude.{◌≡◌, ℕ, ◌<◌, ◌≤◌, ℤ, [], ◌++◌, length, map, Option, Some, None, slice_index_or}
use Rattle.wr_geom.specs.Points.{point_sum}
use Rattle.wr_geom.specs.declared.point.Point.{Point}
use Rattle.clip_masks.specs.Clips.{shifted_clips}
use Rattle.clip_masks.specs.Coverage.{chain_coverage}
use Rattle.field_forms.specs.Facts.{IsDefined}
use Rattle.display_list.specs.declared.node.ChainDef.{ChainDef}
use Rattle.display_list.specs.ListModel.{ListModel}
use Rattle.display_list.specs.Facts.{IsList}
use Rattle.spatial_tree.specs.Moves.{MovesModel}
use Rattle.spatial_tree.specs.Lineage.{clip_numbers, members_at}
use Rattle.spatial_tree.specs.Offsets.{offset_of, offsets_of}
use Rattle.clip_tree.specs.Placed.{placed_clip, placed_clips, in_table}

-- without a chain there is no clip
abbrev pub PlacedOfNone : Type 0
PlacedOfNone = (l : ListModel) (offset : ℕ → Point) → placed_clips l offset None ≡ []

-- so nothing is covered away
abbrev pub NoneLeavesAll : Type 0
NoneLeavesAll = (l : ListModel) (offset : ℕ → Point) (outer : ℕ) (x y : ℤ) → chain_coverage (placed_clips l offset None) outer x y ≡ outer

-- a chain's own clips stand after its parent's
abbrev pub PlacedAfterParents : Type 0
PlacedAfterParents =
    (l : ListModel) (offset : ℕ → Point) (k : ℕ) (d : ChainDef) → IsList l → k < length l.chains → let c = slice_index_or l.chains k d in placed_clips l offset (Some k) ≡ placed_clips l offset c.parent ++ map (placed_clip offset) (members_at l.clips c.clips)

-- a chain without clips covers what its parent covers
abbrev pub EmptyChainIsItsParent : Type 0
EmptyChainIsItsParent =
    (l : ListModel) (offset : ℕ → Point) (k : ℕ) (d : ChainDef) → IsList l → k < length l.chains → let c = slice_index_or l.chains k d in c.clips ≡ [] → placed_clips l offset (Some k) ≡ placed_clips l offset c.parent

-- there are as many as the chain's clips have numbers
abbrev pub PlacedForEachNumber : Type 0
PlacedForEachNumber = (l : ListModel) (offset : ℕ → Point) (chain : Option ℕ) → IsList l → length (placed_clips l offset chain) ≡ length (clip_numbers l.chains chain)

-- and at most 255
abbrev pub PlacedAreFew : Type 0
PlacedAreFew = (l : ListModel) (offset : ℕ → Point) (chain : Option ℕ) → IsList l → IsDefined (length l.chains) chain → length (placed_clips l offset chain) ≤ 255

-- the table places clips as the nodes' offsets do
abbrev pub PlacedByTable : Type 0
PlacedByTable =
    (l : ListModel) (m : MovesModel) (origin : Point) (chain : Option ℕ) → IsList l → placed_clips l (in_table (offsets_of l.nodes m origin)) chain ≡ placed_clips l (offset_of l.nodes m origin) chain

-- where all nodes are moved, all clips are
abbrev pub PlacedMoveWithNodes : Type 0
PlacedMoveWithNodes = (l : ListModel) (offset : ℕ → Point) (by : Point) (chain : Option ℕ) → placed_clips l (λ n. point_sum (offset n) by) chain ≡ shifted_clips (placed_clips l offset chain) by
