use Rattle.std.proofs.Common.{◌≡◌, ◌++◌, ◌+◌, ◌-◌, ◌*◌, drop}
use Rattle.display_list.specs.Trees.{tree_of, trees_of, tree_nesting, nesting_of}
use Rattle.scene_flatten.specs.Chains.{IsChainTable}
use Rattle.scene_flatten.specs.Entries.{pipeline_entries, trees_entries}
use Rattle.scene_flatten.proofs.shown.Walk.+items.Given as goal

-- the entries so far and those that are left are all
abbrev pub invariant-add_items-loop-item : goal.invariant-add_items-loop-item
invariant-add_items-loop-item l =
    (l.out ++ trees_entries (pipeline_entries l.self.pipelines.now l.self.store.now) l.self.store.now l.placed l.around (trees_of (drop l.item-index l.items))
    ≡ l.fn.out ++ trees_entries (pipeline_entries l.self.pipelines.now l.self.store.now) l.self.store.now l.placed l.around (trees_of l.items))
    × IsChainTable l.placed l.table.items

-- the pipelines that may still be named, and the contexts that may still nest
abbrev pub decreases-add_item : goal.decreases-add_item
decreases-add_item l = 300 * (63 - l.placed.now.pipeline) + 3 * tree_nesting (tree_of l.item.now) + 1

abbrev pub decreases-add_items : goal.decreases-add_items
decreases-add_items l = 300 * (63 - l.placed.now.pipeline) + 3 * nesting_of (trees_of l.items.now) + 2

abbrev pub decreases-add_group : goal.decreases-add_group
decreases-add_group l = 300 * (63 - l.placed.now.pipeline) + 3 * nesting_of (trees_of l.children.now) + 3

abbrev pub decreases-add_pipeline : goal.decreases-add_pipeline
decreases-add_pipeline l = 300 * (64 - l.pipeline)
