use Rattle.std.proofs.Common.{◌≡◌, ◌++◌, ◌+◌, ◌-◌, ◌*◌, drop, map}
use Rattle.display_list.specs.Trees.{tree_of, trees_of, tree_nesting, nesting_of}
use Rattle.painter.specs.TopItems.{pipeline_tops, trees_tops}
use Rattle.scene_flatten.specs.Chains.{IsChainTable}
use Rattle.scene_flatten.specs.Tops.{top_of}
use Rattle.scene_flatten.proofs.shown.Walk.+tops.Given as goal

-- the top items so far and those that are left are all
abbrev pub invariant-add_tops-loop-item : goal.invariant-add_tops-loop-item
invariant-add_tops-loop-item l =
    (l.out ++ map (top_of l.self.pipelines.now l.self.store.now) (trees_tops (pipeline_tops l.self.pipelines.now) l.around l.placed (trees_of (drop l.item-index l.items)))
    ≡ l.fn.out ++ map (top_of l.self.pipelines.now l.self.store.now) (trees_tops (pipeline_tops l.self.pipelines.now) l.around l.placed (trees_of l.items)))
    × IsChainTable l.placed l.table.items

-- the pipelines that may still be named, and the contexts that may still nest
abbrev pub decreases-add_top : goal.decreases-add_top
decreases-add_top l = 200 * (63 - l.placed.now.pipeline) + 2 * tree_nesting (tree_of l.item.now) + 1

abbrev pub decreases-add_tops : goal.decreases-add_tops
decreases-add_tops l = 200 * (63 - l.placed.now.pipeline) + 2 * nesting_of (trees_of l.items.now) + 2

abbrev pub decreases-add_pipeline_tops : goal.decreases-add_pipeline_tops
decreases-add_pipeline_tops l = 200 * (64 - l.pipeline)
