use Rattle.std.proofs.Common.{◌<◌, ◌-◌, length, subst, sym, ap, ◌∙◌, arith}
use Rattle.display_list.specs.Facts.{AreNodes}
use Rattle.spatial_tree.specs.Offsets.{IsOffset, offset_of}
use Rattle.spatial_tree.proofs.Distances.{sum_fits_by}
use Rattle.spatial_tree.proofs.Places.{offset-root, offset_via, offset-near}
use Rattle.spatial_tree.proofs.offset.+node_offset.Goals as goal

pub returns-then-node-eq0-clause-value : goal.returns-then-node-eq0-clause-value
returns-then-node-eq0-clause-value t c = sym (ap (offset_of c.args.list.now.nodes c.args.moves.now c.args.origin) c.if-node-eq0.true ∙ offset-root c.args.list.now.nodes c.args.moves.now c.args.origin)

pub returns-clause-value : goal.returns-clause-value
returns-clause-value t c =
    offset_via c.nodes.result.now c.args.list.now.nodes c.args.moves.now c.args.origin c.args.node c.parent.result _ c.node_offset.result c.shift.result c.plus.result
    c.nodes.ensures.value c.nodes.ensures.list.nodes.parents (omega arith) c.requires.node c.parent.ensures c.node_offset.ensures.value c.shift.ensures.value c.plus.ensures

pub returns-clause-near : goal.returns-clause-near
returns-clause-near t c =
    subst IsOffset (sym (returns-clause-value t c))
    (offset-near c.args.list.now.nodes c.args.moves.now c.args.origin c.args.node c.nodes.ensures.list.nodes c.shift.ensures.near c.requires.origin c.requires.node)

pub plus-requires : goal.plus-requires
plus-requires t c =
    let are = subst AreNodes (sym c.nodes.ensures.value) c.nodes.ensures.list.nodes in
    let here : c.args.node - 1 < length c.nodes.result.now = omega (arith, c.requires.node, ap (λ ns. length ns) c.nodes.ensures.value) in
    sum_fits_by c.args.moves.now c.node_offset.result c.shift.result _ c.shift.ensures.near (are.each (c.args.node - 1) _ here) c.node_offset.ensures.near c.shift.ensures.value
