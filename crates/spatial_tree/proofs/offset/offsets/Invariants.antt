use Rattle.std.proofs.Common.{◌≡◌, ◌+◌, map}
use Rattle.std.specs.List.{range_with_len}
use Rattle.spatial_tree.specs.Offsets.{offset_of}
use Rattle.spatial_tree.proofs.offset.offsets.Given as goal

abbrev pub invariant-loop-node : goal.invariant-loop-node
invariant-loop-node l = l.table.items ≡ map (offset_of l.nodes l.moves l.fn.origin) (range_with_len 0 (l.node-index + 1))
