use Rattle.std.proofs.Common.{ap, ◌∙◌}
use Rattle.std.proofs.Math.Numerals.{add-one}
use Rattle.spatial_tree.specs.Homes.{root_scroll_of}
use Rattle.spatial_tree.proofs.Nodes.{root_scroll-root, root_scroll-step}
use Rattle.spatial_tree.proofs.laws.scroll_laws.Goals as goal

pub returns-clause-root : goal.returns-clause-root
returns-clause-root c = root_scroll-root

pub returns-clause-parent : goal.returns-clause-parent
returns-clause-parent c l k d is w = ap (root_scroll_of l.nodes) (add-one k) ∙ root_scroll-step l.nodes k d is.nodes.parents w
