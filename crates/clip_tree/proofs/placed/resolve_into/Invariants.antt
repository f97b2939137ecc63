use Rattle.std.proofs.Common.{◌≡◌, ◌++◌, map, take}
use Rattle.spatial_tree.specs.Lineage.{members_at}
use Rattle.clip_tree.specs.Placed.{placed_clip, in_table}
use Rattle.clip_tree.proofs.placed.resolve_into.Given as goal

abbrev pub invariant-loop-number : goal.invariant-loop-number
invariant-loop-number l = l.out.items ≡ l.fn.out.items ++ map (placed_clip (in_table l.offsets)) (members_at l.defined (take l.number-index l.numbers))
