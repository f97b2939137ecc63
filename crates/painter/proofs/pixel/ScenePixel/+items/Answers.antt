use Rattle.std.proofs.Common.{◌≡◌, ◌+◌, ◌-◌, ◌*◌, ◌≤◌, ◌∙◌, Option, sym, ap, arith}
use Rattle.display_list.specs.Trees.{Trees, told, tree_of, trees_of, tree_nesting, nesting_of}
use Rattle.list_summary.proofs.Counted.{item_nesting}
use Rattle.painter.specs.PlacedList.{PlacedList}
use Rattle.painter.specs.Painter.{paint_list, paint_trees, paint_pipeline}
use Rattle.painter.proofs.Enough.{paint_each}
use Rattle.painter.proofs.Reaching.{item_can, opened}
use Rattle.painter.proofs.pixel.ScenePixel.+items.Goals as goal

pub paint_items-paint_item-painted-requires : goal.paint_items-paint_item-painted-requires
paint_items-paint_item-painted-requires t c =
    let d : 200 * (63 - c.args.placed.now.pipeline) + 2 * nesting_of (trees_of c.args.items.now) + 2 ≡ t = c.decreases in
    let k : tree_nesting (tree_of c.item-item.result) ≤ nesting_of (trees_of c.args.items.now) = item_nesting c.args.items.now c.loop-item.item-index c.item-item.result c.loop-item-test.true c.item-item.is in
    (omega (arith, d, k), (item_can c.args.self.now.pipelines c.args.placed.now c.args.items.now c.loop-item.item-index c.item-item.result c.requires.items c.loop-item-test.true c.item-item.is, c.loop-item.invariant.1))

pub paint_pipeline-paint_items-requires : goal.paint_pipeline-paint_items-requires
paint_pipeline-paint_items-requires t c =
    let d : 200 * (64 - c.args.pipeline) ≡ t = c.decreases in
    let o = opened c.args.self.now.pipelines c.args.pipeline c.args.origin c.in-Some.placed (trees_of c.items.result.now) c.know.ensures c.requires.reach
    (sym c.placed_list.ensures ∙ c.in-Some.is) (ap (λ (l : PlacedList). told l.list.items) (sym c.placed.view_is) ∙ c.items.ensures.trees) in
    (omega (arith, d, o.number, o.low, c.requires.pipeline), (o.can, c.requires.backdrop))

pub paint_pipeline-returns-in-None-clause-value : goal.paint_pipeline-returns-in-None-clause-value
paint_pipeline-returns-in-None-clause-value t c =
    let s = c.args.self.now in
    sym (paint_each s c.args.pipeline c.args.origin c.args.cover c.args.backdrop c.know.ensures
    ∙ ap (λ (o : Option PlacedList). paint_list (paint_pipeline s) s o c.args.cover c.args.backdrop) (sym c.placed_list.ensures ∙ c.in-None.is))

pub paint_pipeline-returns-in-Some-clause-value : goal.paint_pipeline-returns-in-Some-clause-value
paint_pipeline-returns-in-Some-clause-value t c =
    let s = c.args.self.now in
    let trees : told c.in-Some.placed.list.items ≡ trees_of c.items.result.now = ap (λ (l : PlacedList). told l.list.items) (sym c.placed.view_is) ∙ c.items.ensures.trees in
    c.paint_items.ensures.value
    ∙ sym (paint_each s c.args.pipeline c.args.origin c.args.cover c.args.backdrop c.know.ensures
    ∙ ap (λ (o : Option PlacedList). paint_list (paint_pipeline s) s o c.args.cover c.args.backdrop) (sym c.placed_list.ensures ∙ c.in-Some.is)
    ∙ ap (λ (ts : Trees). paint_trees (paint_pipeline s) s c.in-Some.placed ts c.args.cover c.args.backdrop) trees)
