use Rattle.std.proofs.Common.{◌≡◌, ◌+◌, ◌-◌, ◌*◌, ◌≤◌, ◌∙◌, Option, List, ◌++◌, map, sym, ap, subst, arith}
use Rattle.std.specs.Prelude.{OnOk}
use Rattle.std.proofs.lemmas.List.{append-nil}
use Rattle.display_list.specs.declared.token.Push.{Push}
use Rattle.display_list.specs.Trees.{Trees, context, told, tree_of, trees_of, tree_nesting, nesting_of}
use Rattle.display_list.proofs.TreeLaws.{tree-context}
use Rattle.list_summary.proofs.Counted.{item_nesting}
use Rattle.painter.specs.PlacedList.{PlacedList}
use Rattle.painter.specs.Facts.{CanPaint, CanPaintAll}
use Rattle.painter.specs.TopItems.{TopItem, list_tops, trees_tops, pipeline_tops}
use Rattle.painter.proofs.Enough.{tops_each}
use Rattle.painter.proofs.Reaching.{item_can, inner_can, opened}
use Rattle.scene_flatten.specs.Tops.{top_of}
use Rattle.scene_flatten.proofs.shown.Walk.+tops.Goals as goal

pub add_tops-add_top-requires : goal.add_tops-add_top-requires
add_tops-add_top-requires t c =
    let d : 200 * (63 - c.args.placed.now.pipeline) + 2 * nesting_of (trees_of c.args.items.now) + 2 ≡ t = c.decreases in
    let k : tree_nesting (tree_of c.item-item.result) ≤ nesting_of (trees_of c.args.items.now) = item_nesting c.args.items.now c.loop-item.item-index c.item-item.result c.loop-item-test.true c.item-item.is in
    (omega (arith, d, k), (c.loop-item.invariant.1, item_can c.args.self.now.pipelines.now c.args.placed.now c.args.items.now c.loop-item.item-index c.item-item.result c.requires.items c.loop-item-test.true c.item-item.is))

pub add_top-add_tops-requires : goal.add_top-add_tops-requires
add_top-add_tops-requires t c =
    let x = c.in-Context in
    let push : Push = record { node = x.node; chain = x.chain; opacity = x.opacity; prop = x.prop; mode = x.mode; isolate = x.isolate } in
    let tree : tree_of c.args.item.now ≡ context push (trees_of x.children.items) = ap tree_of x.is ∙ tree-context x.node x.chain x.opacity x.prop x.mode x.isolate x.children in
    let here : trees_of c.deref.result.now ≡ trees_of x.children.items = ap trees_of c.deref.ensures.value in
    let d : 200 * (63 - c.args.placed.now.pipeline) + 2 * tree_nesting (tree_of c.args.item.now) + 1 ≡ t = c.decreases in
    let deep : tree_nesting (tree_of c.args.item.now) ≡ nesting_of (trees_of c.deref.result.now) + 1 = ap tree_nesting tree ∙ ap (λ (ts : Trees). nesting_of ts + 1) (sym here) in
    let all = inner_can c.args.self.now.pipelines.now c.args.placed.now push (trees_of x.children.items) (subst (CanPaint c.args.self.now.pipelines.now c.args.placed.now) tree c.requires.item) in
    (omega (arith, d, deep), (c.requires.table, subst (CanPaintAll c.args.self.now.pipelines.now c.args.placed.now) (sym here) all))

pub add_pipeline_tops-add_tops-requires : goal.add_pipeline_tops-add_tops-requires
add_pipeline_tops-add_tops-requires t c =
    let d : 200 * (64 - c.args.pipeline) ≡ t = c.decreases in
    let o = opened c.args.self.now.pipelines.now c.args.pipeline c.args.origin c.in-Some.placed (trees_of c.items-items.result.now) c.placed_list.ensures.fit c.requires.reach
    (sym c.in_ok-placed_list.ensures.value ∙ c.in-Some.is) (ap (λ (l : PlacedList). told l.list.items) (sym c.placed.view_is) ∙ c.items-items.ensures.trees) in
    (omega (arith, d, o.number, o.low, c.requires.pipeline), (c.in_ok-table-in-Some.ensures, o.can))

pub add_pipeline_tops-returns-in-None : goal.add_pipeline_tops-returns-in-None
add_pipeline_tops-returns-in-None t c =
    let ps = c.args.self.now.pipelines.now in
    let store = c.args.self.now.store.now in
    sym (append-nil c.args.out.now)
    ∙ ap (λ (ts : List TopItem). c.args.out.now ++ map (top_of ps store) ts)
    (sym (tops_each ps c.args.pipeline c.args.origin c.args.around.now c.placed_list.ensures.fit
    ∙ ap (λ (o : Option PlacedList). list_tops (pipeline_tops ps) o c.args.around.now) (sym c.in_ok-placed_list.ensures.value ∙ c.in-None.is)))

pub add_pipeline_tops-returns-in_ok-table-in-Some : goal.add_pipeline_tops-returns-in_ok-table-in-Some
add_pipeline_tops-returns-in_ok-table-in-Some t c =
    let ps = c.args.self.now.pipelines.now in
    let store = c.args.self.now.store.now in
    let trees : told c.in-Some.placed.list.items ≡ trees_of c.items-items.result.now = ap (λ (l : PlacedList). told l.list.items) (sym c.placed.view_is) ∙ c.items-items.ensures.trees in
    let whole : pipeline_tops ps c.args.pipeline c.args.origin c.args.around.now ≡ trees_tops (pipeline_tops ps) c.args.around.now c.in-Some.placed (trees_of c.items-items.result.now) =
    tops_each ps c.args.pipeline c.args.origin c.args.around.now c.placed_list.ensures.fit
    ∙ ap (λ (o : Option PlacedList). list_tops (pipeline_tops ps) o c.args.around.now) (sym c.in_ok-placed_list.ensures.value ∙ c.in-Some.is)
    ∙ ap (λ (us : Trees). trees_tops (pipeline_tops ps) c.args.around.now c.in-Some.placed us) trees in
    subst (λ (ts : List TopItem). OnOk c.add_tops.result (c.add_tops.new.out ≡ c.args.out.now ++ map (top_of ps store) ts)) (sym whole) c.add_tops.ensures.value
