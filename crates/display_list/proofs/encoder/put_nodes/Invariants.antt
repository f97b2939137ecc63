use Rattle.std.proofs.Common.{◌≡◌, ◌++◌, drop}
use Rattle.std.specs.List.{flat_map}
use Rattle.display_list.specs.Spelling.{node_bytes}
use Rattle.display_list.proofs.encoder.put_nodes.Given as goal

-- what is written and what is left are all
abbrev pub invariant-loop-node : goal.invariant-loop-node
invariant-loop-node l = l.out.items ++ flat_map node_bytes (drop l.node-index l.nodes) ≡ l.fn.out.items ++ flat_map node_bytes l.nodes
