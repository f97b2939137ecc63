use Rattle.std.proofs.Common.{subst, sym, ap, ◌∙◌}
use Rattle.spatial_tree.specs.Homes.{root_scroll_of}
use Rattle.spatial_tree.proofs.Nodes.{AreOrdered, scroll_up, scroll_done}
use Rattle.spatial_tree.proofs.home.root_scroll.Goals as goal

pub up-preserved : goal.up-preserved
up-preserved c =
    let ordered = subst AreOrdered (sym c.nodes-nodes.ensures.value) c.nodes-nodes.ensures.list.nodes.parents in
    scroll_up c.nodes-nodes.result.now c.args.node c.up.at c.parent-at.result c.up.outermost c.scroll_number.result c.or-outermost.result _ ordered c.up-test.true c.up.invariant.0
    c.parent-at.ensures c.scroll_number.ensures c.or-outermost.ensures c.up.invariant.1

pub returns : goal.returns
returns c =
    scroll_done c.nodes-nodes.result.now c.args.node c.up.at c.up.outermost c.up-test.false c.up.invariant.1
    ∙ ap (λ ns. root_scroll_of ns c.args.node) c.nodes-nodes.ensures.value
