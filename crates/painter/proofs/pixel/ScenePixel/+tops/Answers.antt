use Rattle.std.proofs.Common.{◌≡◌, ◌+◌, ◌-◌, ◌*◌, ◌≤◌, ◌∙◌, Option, List, sym, ap, arith}
use Rattle.std.specs.List.{fold}
use Rattle.display_list.specs.Trees.{Trees, told, tree_of, trees_of, tree_nesting, nesting_of}
use Rattle.list_summary.proofs.Counted.{item_nesting}
use Rattle.painter.specs.PlacedList.{PlacedList}
use Rattle.painter.specs.Progress.{after_top}
use Rattle.painter.specs.TopItems.{TopItem, list_tops, trees_tops, pipeline_tops}
use Rattle.painter.proofs.Enough.{tops_each}
use Rattle.painter.proofs.Reaching.{item_can, opened}
use Rattle.painter.proofs.pixel.ScenePixel.+tops.Goals as goal

pub items_tops-item_tops-progress-requires : goal.items_tops-item_tops-progress-requires
items_tops-item_tops-progress-requires t c =
    let d : 200 * (63 - c.args.placed.now.pipeline) + 2 * nesting_of (trees_of c.args.items.now) + 2 ≡ t = c.decreases in
    let k : tree_nesting (tree_of c.item-item.result) ≤ nesting_of (trees_of c.args.items.now) = item_nesting c.args.items.now c.loop-item.item-index c.item-item.result c.loop-item-test.true c.item-item.is in
    (omega (arith, d, k), (item_can c.args.self.now.pipelines c.args.placed.now c.args.items.now c.loop-item.item-index c.item-item.result c.requires.items c.loop-item-test.true c.item-item.is, c.loop-item.invariant.1))

pub pipeline_tops-items_tops-requires : goal.pipeline_tops-items_tops-requires
pipeline_tops-items_tops-requires t c =
    let d : 200 * (64 - c.args.pipeline) ≡ t = c.decreases in
    let o = opened c.args.self.now.pipelines c.args.pipeline c.args.origin c.in-Some.placed (trees_of c.items.result.now) c.know.ensures c.requires.reach
    (sym c.placed_list.ensures ∙ c.in-Some.is) (ap (λ (l : PlacedList). told l.list.items) (sym c.placed.view_is) ∙ c.items.ensures.trees) in
    (omega (arith, d, o.number, o.low, c.requires.pipeline), (o.can, c.requires.progress))

pub pipeline_tops-returns-in-None-clause-value : goal.pipeline_tops-returns-in-None-clause-value
pipeline_tops-returns-in-None-clause-value t c a home cover =
    let s = c.args.self.now in
    sym (ap (λ (ts : List TopItem). fold (after_top s) c.args.progress ts)
    (tops_each s.pipelines c.args.pipeline c.args.origin a c.know.ensures
    ∙ ap (λ (o : Option PlacedList). list_tops (pipeline_tops s.pipelines) o a) (sym c.placed_list.ensures ∙ c.in-None.is)))

pub pipeline_tops-returns-in-Some-clause-value : goal.pipeline_tops-returns-in-Some-clause-value
pipeline_tops-returns-in-Some-clause-value t c a home cover =
    let s = c.args.self.now in
    let trees : told c.in-Some.placed.list.items ≡ trees_of c.items.result.now = ap (λ (l : PlacedList). told l.list.items) (sym c.placed.view_is) ∙ c.items.ensures.trees in
    c.items_tops.ensures.value a home cover
    ∙ sym (ap (λ (ts : List TopItem). fold (after_top s) c.args.progress ts)
    (tops_each s.pipelines c.args.pipeline c.args.origin a c.know.ensures
    ∙ ap (λ (o : Option PlacedList). list_tops (pipeline_tops s.pipelines) o a) (sym c.placed_list.ensures ∙ c.in-Some.is)
    ∙ ap (λ (us : Trees). trees_tops (pipeline_tops s.pipelines) a c.in-Some.placed us) trees))
