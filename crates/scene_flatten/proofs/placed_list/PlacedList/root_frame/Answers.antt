use Rattle.std.proofs.Common.{ℕ, subst, sym, ap, ◌∙◌}
use Rattle.std.specs.Option.{option_map}
use Rattle.spatial_tree.specs.Homes.{root_scroll_of}
use Rattle.spatial_tree.proofs.Nodes.{AreOrdered, scroll_up, scroll_done}
use Rattle.painter.specs.Frames.{root_frame_of}
use Rattle.painter.specs.PlacedList.{PlacedList}
use Rattle.scene_flatten.specs.declared.placed_list.Frame.{Frame}
use Rattle.scene_flatten.proofs.Rising.{map_or, frame_up, frame_done}
use Rattle.scene_flatten.proofs.placed_list.PlacedList.root_frame.Goals as goal

abbrev node : Frame → ℕ
node f = f.node

abbrev scroll : Frame → ℕ
scroll f = f.scroll

pub up-preserved : goal.up-preserved
up-preserved c =
    let nodes = c.nodes-nodes.result.now in
    let ordered = subst AreOrdered (sym c.nodes-nodes.ensures.value) c.nodes-nodes.ensures.list.nodes.parents in
    let scrolls =
    scroll_up nodes c.args.node c.up.at c.parent-at.result (option_map scroll c.up.outermost) (option_map scroll c.own_frame.result) (option_map scroll c.or-outermost.result) _ ordered c.up-test.true c.up.invariant.0
    c.parent-at.ensures c.own_frame.ensures.scroll (ap (option_map scroll) c.or-outermost.ensures ∙ map_or scroll c.own_frame.result c.up.outermost) c.up.invariant.2 in
    let frames =
    frame_up nodes c.args.node c.up.at c.parent-at.result (option_map node c.up.outermost) (option_map node c.own_frame.result) (option_map node c.or-outermost.result) _ ordered c.up-test.true c.up.invariant.0
    c.parent-at.ensures c.own_frame.ensures.node (ap (option_map node) c.or-outermost.ensures ∙ map_or node c.own_frame.result c.up.outermost) c.up.invariant.1 in
    (scrolls.0, frames, scrolls.1)

pub returns-clause-node : goal.returns-clause-node
returns-clause-node c =
    frame_done c.nodes-nodes.result.now c.args.node c.up.at (option_map node c.up.outermost) c.up-test.false c.up.invariant.1
    ∙ ap (λ ns. root_frame_of ns c.args.node) c.nodes-nodes.ensures.value
    ∙ ap (λ (l : PlacedList). root_frame_of l.list.nodes c.args.node) c.self.view_is

pub returns-clause-scroll : goal.returns-clause-scroll
returns-clause-scroll c =
    scroll_done c.nodes-nodes.result.now c.args.node c.up.at (option_map scroll c.up.outermost) c.up-test.false c.up.invariant.2
    ∙ ap (λ ns. root_scroll_of ns c.args.node) c.nodes-nodes.ensures.value
    ∙ ap (λ (l : PlacedList). root_scroll_of l.list.nodes c.args.node) c.self.view_is
