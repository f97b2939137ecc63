use Rattle.std.proofs.Common.{◌≡◌, ◌++◌, ◌+◌, ◌-◌, ◌*◌, map, drop}
use Rattle.display_list.specs.Trees.{trees_of}
use Rattle.list_summary.specs.Shown.{nobody, shown_trees, within}
use Rattle.list_summary.specs.Totals.{and_shown}
use Rattle.list_summary.specs.Iframes.{trees_iframes}
use Rattle.list_summary.proofs.counting.+items.Given as goal

-- what is counted and what is left are all
abbrev pub invariant-count_items-loop-item : goal.invariant-count_items-loop-item
invariant-count_items-loop-item l =
    (and_shown l.sum (map (within l.depth) (shown_trees nobody l.counts (trees_of (drop l.item-index l.items)))) ≡ and_shown l.fn.sum (map (within l.depth) (shown_trees nobody l.counts (trees_of l.items))))
    × (l.iframes.items ++ trees_iframes l.counts l.depth (trees_of (drop l.item-index l.items)) ≡ l.fn.iframes.items ++ trees_iframes l.counts l.depth (trees_of l.items))

-- contexts that may still nest; a list of items is one step above its items
abbrev pub decreases-count_item : goal.decreases-count_item
decreases-count_item l = 2 * (64 - l.depth)

abbrev pub decreases-count_items : goal.decreases-count_items
decreases-count_items l = 2 * (64 - l.depth) + 1
