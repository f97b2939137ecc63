use Rattle.std.proofs.Common.{◌≡◌, ◌+◌, ◌-◌, ◌*◌, ◌≤◌, arith}
use Rattle.display_list.specs.Trees.{tree_of, trees_of, nesting_of, tree_nesting}
use Rattle.list_summary.proofs.Counted.{item_nesting}
use Rattle.list_summary.proofs.counting.+items.Goals as goal

pub count_items-count_item-requires : goal.count_items-count_item-requires
count_items-count_item-requires t c =
    let d : 2 * (64 - c.args.depth) + 1 ≡ t = c.decreases in
    let k : tree_nesting (tree_of c.item-item.result) ≤ nesting_of (trees_of c.args.items.now) = item_nesting c.args.items.now c.loop-item.item-index c.item-item.result c.loop-item-test.true c.item-item.is in
    (omega arith, omega (arith, k, c.requires))
