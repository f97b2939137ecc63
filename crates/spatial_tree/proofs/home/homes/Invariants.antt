use Rattle.std.proofs.Common.{◌≡◌, map, take}
use Rattle.spatial_tree.specs.Lineage.{members_at}
use Rattle.spatial_tree.specs.Homes.{root_scroll_of}
use Rattle.spatial_tree.proofs.home.homes.Given as goal

abbrev pub invariant-loop-number : goal.invariant-loop-number
invariant-loop-number l = l.homes.items ≡ map (λ c. root_scroll_of l.list.nodes c.node) (members_at l.clips (take l.number-index l.numbers))
