use Rattle.std.proofs.Common.{◌≡◌, ◌+◌, ◌-◌, ◌*◌, drop}
use Rattle.std.specs.List.{fold}
use Rattle.display_list.specs.Trees.{tree_of, trees_of, tree_nesting, nesting_of}
use Rattle.painter.specs.Facts.{IsProgress}
use Rattle.painter.specs.Painter.{under}
use Rattle.painter.specs.Progress.{after_top}
use Rattle.painter.specs.TopItems.{Around, pipeline_tops, trees_tops}
use Rattle.painter.proofs.pixel.ScenePixel.+tops.Given as goal

-- the top items so far and those that are left are all
abbrev pub invariant-items_tops-loop-item : goal.invariant-items_tops-loop-item
invariant-items_tops-loop-item l =
    ((a : Around) → a.home ≡ l.around.home → under l.self a.clips 255 ≡ l.around.cover
    → fold (after_top l.self) l.progress (trees_tops (pipeline_tops l.self.pipelines) a l.placed (trees_of (drop l.item-index l.items)))
    ≡ fold (after_top l.self) l.fn.progress (trees_tops (pipeline_tops l.self.pipelines) a l.placed (trees_of l.items)))
    × IsProgress l.progress

-- the pipelines that may still be named, and the contexts that may still nest
abbrev pub decreases-item_tops : goal.decreases-item_tops
decreases-item_tops l = 200 * (63 - l.placed.now.pipeline) + 2 * tree_nesting (tree_of l.item.now) + 1

abbrev pub decreases-items_tops : goal.decreases-items_tops
decreases-items_tops l = 200 * (63 - l.placed.now.pipeline) + 2 * nesting_of (trees_of l.items.now) + 2

abbrev pub decreases-pipeline_tops : goal.decreases-pipeline_tops
decreases-pipeline_tops l = 200 * (64 - l.pipeline)
