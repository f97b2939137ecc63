-- What has to hold of items that are painted.
use Rattle.std.specs.Prelude.{◌≡◌, ℕ, ◌+◌, ◌≤◌, ◌^◌, true, length}
use Rattle.wr_geom.specs.declared.point.Point.{Point}
use Rattle.display_list.specs.Trees.{Tree, solid, image, border, text, context, iframe, hit_area, Trees, none, more, IsTree, AreTrees, TreeNamesAbove, TreesNameAbove}
use Rattle.pipelines.specs.Table.{PipelineMap}
use Rattle.spatial_tree.specs.Offsets.{IsWithin}
use Rattle.scene_limits.specs.Limits.{are_in_reach}
use Rattle.scene_limits.specs.Places.{node_places}
use Rattle.painter.specs.PlacedList.{PlacedList, node_point, item_rect, first_corner}
use Rattle.painter.specs.declared.progress.Progress.{Progress}
use Rattle.blend_rules.specs.Colour.{IsPremultiplied}

-- each node that is drawn with a pipeline whose root is at a point is in reach
abbrev pub Reaches : PipelineMap → ℕ → Point → Type 0
Reaches pipelines p origin = are_in_reach (node_places 64 pipelines p origin) ≡ true

-- each node of a placed list is in reach
pub record IsPlaced (l : PlacedList) : Type 0 where
  pub nodes : (node : ℕ) → node ≤ length l.list.nodes → IsWithin (2 ^ 27) (node_point l node)

abbrev mutual
  -- so is each that Iframes show
  pub TreeReaches : PipelineMap → PlacedList → Tree → Type 0
  TreeReaches pipelines l (solid spot colour) = Unit {0}
  TreeReaches pipelines l (image spot key u v) = Unit {0}
  TreeReaches pipelines l (border spot widths top right bottom left_ radii) = Unit {0}
  TreeReaches pipelines l (text spot font colour glyphs) = Unit {0}
  TreeReaches pipelines l (context push ts) = TreesReach pipelines l ts
  TreeReaches pipelines l (iframe spot pipeline) = Reaches pipelines pipeline (first_corner (item_rect l spot))
  TreeReaches pipelines l (hit_area spot tag) = Unit {0}

  pub TreesReach : PipelineMap → PlacedList → Trees → Type 0
  TreesReach pipelines l none = Unit {0}
  TreesReach pipelines l (more t ts) = TreeReaches pipelines l t × TreesReach pipelines l ts

-- the fields of an item are checked against its list, its Iframes name greater pipelines, and what they show is in reach
pub record CanPaint (pipelines : PipelineMap) (l : PlacedList) (t : Tree) : Type 0 where
  pub fields : IsTree (length l.list.nodes + 1) (length l.list.chains) t
  pub above : TreeNamesAbove l.pipeline t
  pub reach : TreeReaches pipelines l t

-- the same of items
pub record CanPaintAll (pipelines : PipelineMap) (l : PlacedList) (ts : Trees) : Type 0 where
  pub fields : AreTrees (length l.list.nodes + 1) (length l.list.chains) ts
  pub above : TreesNameAbove l.pipeline ts
  pub reach : TreesReach pipelines l ts

-- at most eight runs have begun, and the colours are premultiplied
pub record IsProgress (p : Progress) : Type 0 where
  pub runs : p.runs ≤ 8
  pub slice : IsPremultiplied p.slice
  pub picture : IsPremultiplied p.picture
