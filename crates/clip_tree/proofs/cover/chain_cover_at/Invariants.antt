use Rattle.std.proofs.Common.{◌≡◌, map, take}
use Rattle.clip_masks.specs.Coverage.{chain_coverage}
use Rattle.spatial_tree.specs.Lineage.{members_at}
use Rattle.spatial_tree.specs.Offsets.{offset_of}
use Rattle.clip_tree.specs.Placed.{placed_clip}
use Rattle.clip_tree.proofs.cover.chain_cover_at.Given as goal

abbrev pub invariant-loop-number : goal.invariant-loop-number
invariant-loop-number l =
    l.cover ≡ chain_coverage (map (placed_clip (offset_of l.list.nodes l.moves l.origin)) (members_at l.defined (take l.number-index l.numbers))) l.fn.outer l.x l.y
