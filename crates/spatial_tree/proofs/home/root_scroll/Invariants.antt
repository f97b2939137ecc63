use Rattle.std.proofs.Common.{◌≡◌, ◌≤◌, length}
use Rattle.std.specs.Option.{option_or}
use Rattle.spatial_tree.specs.Homes.{root_scroll_of}
use Rattle.spatial_tree.proofs.home.root_scroll.Given as goal

abbrev pub invariant-up : goal.invariant-up
invariant-up l = (l.at ≤ length l.nodes) × (option_or (root_scroll_of l.nodes l.at) l.outermost ≡ root_scroll_of l.nodes l.fn.node)

abbrev pub decreases-up : goal.decreases-up
decreases-up l = l.at
