-- What holds of offsets, outermost scroll frames and the clips of chains, in every display list.
use Rattle.std.specs.Prelude.{◌≡◌, ℕ, ◌+◌, ◌<◌, ◌≤◌, List, [], ◌++◌, length, All, Option, Some, None, slice_index_or}
use Rattle.std.specs.Option.{option_or}
use Rattle.wr_geom.specs.Points.{point_sum}
use Rattle.wr_geom.specs.declared.point.Point.{Point}
use Rattle.field_forms.specs.Facts.{IsDefined}
use Rattle.display_list.specs.declared.node.Node.{Node}
use Rattle.display_list.specs.declared.node.ChainDef.{ChainDef}
use Rattle.display_list.specs.ListModel.{ListModel}
use Rattle.display_list.specs.Levels.{parent_of, inherited, totals_of}
use Rattle.display_list.specs.Facts.{IsList, IsClip}
use Rattle.spatial_tree.specs.Moves.{MovesModel, AreNearMoves}
use Rattle.spatial_tree.specs.Lineage.{clip_numbers, members_at, clips_of}
use Rattle.spatial_tree.specs.Offsets.{IsOrigin, IsOffset, shift_of, offset_of, offsets_of}
use Rattle.spatial_tree.specs.Homes.{scroll_of, root_scroll_of}

-- ---- offsets

-- the root is at the origin
abbrev pub OffsetOfRoot : Type 0
OffsetOfRoot = (nodes : List Node) (m : MovesModel) (origin : Point) → offset_of nodes m origin 0 ≡ origin

-- a node is moved against its parent
abbrev pub OffsetFromParent : Type 0
OffsetFromParent =
    (l : ListModel) (m : MovesModel) (origin : Point) (k : ℕ) (d : Node) → IsList l → k < length l.nodes → let n = slice_index_or l.nodes k d in offset_of l.nodes m origin (k + 1) ≡ point_sum (offset_of l.nodes m origin (parent_of n)) (shift_of m n)

-- with a root near enough, no node is far
abbrev pub OffsetsAreNear : Type 0
OffsetsAreNear = (l : ListModel) (m : MovesModel) (origin : Point) (node : ℕ) → IsList l → AreNearMoves m → IsOrigin origin → node ≤ length l.nodes → IsOffset (offset_of l.nodes m origin node)

-- all nodes move with the origin
abbrev pub OffsetsMoveWithOrigin : Type 0
OffsetsMoveWithOrigin = (nodes : List Node) (m : MovesModel) (by origin : Point) (node : ℕ) → offset_of nodes m (point_sum by origin) node ≡ point_sum by (offset_of nodes m origin node)

-- the table has each node's offset at its number
abbrev pub TableHasOffsets : Type 0
TableHasOffsets = (nodes : List Node) (m : MovesModel) (origin : Point) (node : ℕ) (d : Point) → node ≤ length nodes → slice_index_or (offsets_of nodes m origin) node d ≡ offset_of nodes m origin node

-- and the root's beside them
abbrev pub TableHasAll : Type 0
TableHasAll = (nodes : List Node) (m : MovesModel) (origin : Point) → length (offsets_of nodes m origin) ≡ length nodes + 1

-- no offset in it is far
abbrev pub TableIsNear : Type 0
TableIsNear = (l : ListModel) (m : MovesModel) (origin : Point) → IsList l → AreNearMoves m → IsOrigin origin → All IsOffset (offsets_of l.nodes m origin)

-- ---- outermost scroll frames

-- the root is not scrolled
abbrev pub RootIsNotScrolled : Type 0
RootIsNotScrolled = (nodes : List Node) → root_scroll_of nodes 0 ≡ None

-- a node's outermost scroll frame is its parent's; where that has none it may be the node itself
abbrev pub ScrollFromParent : Type 0
ScrollFromParent =
    (l : ListModel) (k : ℕ) (d : Node) → IsList l → k < length l.nodes → let n = slice_index_or l.nodes k d in root_scroll_of l.nodes (k + 1) ≡ option_or (root_scroll_of l.nodes (parent_of n)) (scroll_of n)

-- ---- the clips of chains

-- without a chain there is none
abbrev pub ClipsOfNone : Type 0
ClipsOfNone = (l : ListModel) → clips_of l None ≡ []

-- a chain's own clips stand after its parent's
abbrev pub ClipsAfterParents : Type 0
ClipsAfterParents = (l : ListModel) (k : ℕ) (d : ChainDef) → IsList l → k < length l.chains → let c = slice_index_or l.chains k d in clips_of l (Some k) ≡ clips_of l c.parent ++ members_at l.clips c.clips

-- a chain has a clip for each number
abbrev pub ClipForEachNumber : Type 0
ClipForEachNumber = (l : ListModel) (chain : Option ℕ) → IsList l → length (clips_of l chain) ≡ length (clip_numbers l.chains chain)

-- a chain has at most 255 clips with its parents'
abbrev pub ClipsAreFew : Type 0
ClipsAreFew = (l : ListModel) (chain : Option ℕ) → IsList l → IsDefined (length l.chains) chain → length (clip_numbers l.chains chain) ≤ 255

-- as many as the list's totals say
abbrev pub ClipsAreCounted : Type 0
ClipsAreCounted = (l : ListModel) (chain : Option ℕ) → IsList l → IsDefined (length l.chains) chain → length (clip_numbers l.chains chain) ≡ inherited (totals_of l.chains) chain

-- each meets the checks of clips
abbrev pub ClipsAreClips : Type 0
ClipsAreClips = (l : ListModel) (chain : Option ℕ) → IsList l → All (IsClip (length l.nodes + 1)) (clips_of l chain)
