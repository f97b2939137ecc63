use Rattle.std.proofs.Common.{◌≡◌, ◌+◌, ◌-◌, ◌*◌, drop}
use Rattle.blend_rules.specs.Colour.{IsPremultiplied}
use Rattle.display_list.specs.Trees.{tree_of, trees_of, tree_nesting, nesting_of}
use Rattle.painter.specs.Painter.{paint_pipeline, paint_trees}
use Rattle.painter.proofs.pixel.ScenePixel.+items.Given as goal

-- what is painted and what is left give what all give
abbrev pub invariant-paint_items-loop-item : goal.invariant-paint_items-loop-item
invariant-paint_items-loop-item l =
    (paint_trees (paint_pipeline l.self) l.self l.placed (trees_of (drop l.item-index l.items)) l.cover l.painted
    ≡ paint_trees (paint_pipeline l.self) l.self l.placed (trees_of l.items) l.cover l.fn.backdrop)
    × IsPremultiplied l.painted

-- the pipelines that may still be named, and the contexts that may still nest
abbrev pub decreases-paint_item : goal.decreases-paint_item
decreases-paint_item l = 200 * (63 - l.placed.now.pipeline) + 2 * tree_nesting (tree_of l.item.now) + 1

abbrev pub decreases-paint_items : goal.decreases-paint_items
decreases-paint_items l = 200 * (63 - l.placed.now.pipeline) + 2 * nesting_of (trees_of l.items.now) + 2

abbrev pub decreases-paint_pipeline : goal.decreases-paint_pipeline
decreases-paint_pipeline l = 200 * (64 - l.pipeline)
