use Rattle.std.specs.Prelude.{All}
use Rattle.wr_geom.specs.declared.point.Point.{Point}
use Rattle.std.proofs.Common.{List, length, ◌∷◌, ◌++◌, [], subst, sym, ap, ◌∙◌, arith}
use Rattle.display_list.specs.Facts.{AreNodes}
use Rattle.spatial_tree.specs.Offsets.{IsOffset}
use Rattle.spatial_tree.proofs.Distances.{sum_fits_by}
use Rattle.spatial_tree.proofs.Places.{offset-root, offset-near, parent_in, parent_low, parent_of_table, table_more, table_all, table-size, near_table}
use Rattle.spatial_tree.proofs.offset.offsets.Goals as goal

pub loop-node-init : goal.loop-node-init
loop-node-init c =
    c.in_ok-push.ensures.items ∙ ap (λ ps. ps ++ c.args.origin ∷ []) c.in_ok-table.ensures.items ∙ ap (λ p. p ∷ []) (sym (offset-root c.nodes-nodes.result.now c.args.moves.now c.args.origin))

pub index-parent-requires : goal.index-parent-requires
index-parent-requires c =
    let are = subst AreNodes (sym c.nodes-nodes.ensures.value) c.nodes-nodes.ensures.list.nodes in
    let within = parent_in c.nodes-nodes.result.now c.args.moves.now c.args.origin c.loop-node.table.items c.loop-node.node-index c.parent.result _ are.parents c.loop-node-test.true c.parent.ensures c.loop-node.invariant in
    omega (arith, within, c.loop-node.table.ok)

pub plus-requires : goal.plus-requires
plus-requires c =
    let are = subst AreNodes (sym c.nodes-nodes.ensures.value) c.nodes-nodes.ensures.list.nodes in
    let nodes = c.nodes-nodes.result.now in
    let m = c.args.moves.now in
    let above = parent_of_table nodes m c.args.origin c.loop-node.table.items c.loop-node.node-index c.parent.result _ c.index-parent.result.now _ are.parents c.loop-node-test.true c.parent.ensures c.loop-node.invariant c.index-parent.ensures in
    let near = offset-near nodes m c.args.origin c.parent.result are c.shift.ensures.near c.requires (parent_low nodes c.loop-node.node-index c.parent.result _ are.parents c.loop-node-test.true c.parent.ensures) in
    sum_fits_by m c.index-parent.result.now c.shift.result _ c.shift.ensures.near (are.each c.loop-node.node-index _ c.loop-node-test.true) (subst IsOffset (sym above) near) c.shift.ensures.value

pub loop-node-preserved : goal.loop-node-preserved
loop-node-preserved c =
    let are = subst AreNodes (sym c.nodes-nodes.ensures.value) c.nodes-nodes.ensures.list.nodes in
    let above = parent_of_table c.nodes-nodes.result.now c.args.moves.now c.args.origin c.loop-node.table.items c.loop-node.node-index c.parent.result _ c.index-parent.result.now _ are.parents c.loop-node-test.true c.parent.ensures c.loop-node.invariant c.index-parent.ensures in
    table_more c.nodes-nodes.result.now c.args.moves.now c.args.origin c.loop-node.table.items c.push-in-loop-node.new.self.items c.loop-node.node-index c.parent.result _ c.index-parent.result.now c.shift.result c.plus.result are.parents
    c.loop-node-test.true c.parent.ensures c.loop-node.invariant above c.shift.ensures.value c.plus.ensures c.in_ok-push-2.ensures.items

pub returns-clause-table : goal.returns-clause-table
returns-clause-table c =
    table_all c.nodes-nodes.result.now c.args.list.now.nodes c.args.moves.now c.args.origin c.loop-node.table.items c.loop-node.node-index c.nodes-nodes.ensures.value (omega arith) c.loop-node-test.false c.loop-node.invariant

pub returns-clause-len : goal.returns-clause-len
returns-clause-len c = ap (λ (ps : List Point). length ps) (returns-clause-table c) ∙ table-size c.args.list.now.nodes c.args.moves.now c.args.origin

pub returns-clause-near : goal.returns-clause-near
returns-clause-near c =
    subst (All IsOffset) (sym (returns-clause-table c)) (near_table c.args.list.now c.args.moves.now c.args.origin c.nodes-nodes.ensures.list c.scrolls-stored.ensures.near c.requires)
