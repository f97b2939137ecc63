-- The top items of a scene: the primitives and groups that stand in no group, through plain contexts and Iframes.
use Rattle.std.specs.Prelude.{ℕ, zero, suc, List, [], ◌∷◌, ◌++◌, map, Option, Some, None, if◌then◌else◌}
use Rattle.std.specs.Option.{option_map, option_or}
use Rattle.wr_geom.specs.declared.point.Point.{Point}
use Rattle.blend_rules.specs.declared.colour.Px.{Px}
use Rattle.clip_masks.specs.declared.clip.Clip.{Clip}
use Rattle.display_list.specs.declared.item.Spot.{Spot}
use Rattle.display_list.specs.Trees.{Tree, solid, image, border, text, context, iframe, hit_area, Trees, none, more, told}
use Rattle.pipelines.specs.Table.{PipelineMap}
use Rattle.scene_limits.specs.Places.{zero_point}
use Rattle.spatial_tree.specs.Homes.{root_scroll_of, homes_of}
use Rattle.slice_rules.specs.Homes.{Home}
use Rattle.painter.specs.Frames.{root_frame_of}
use Rattle.painter.specs.PlacedList.{PlacedList, placed_at, node_point, item_rect, first_corner, iframe_clips, is_plain}
use Rattle.painter.specs.Painter.{ScenePixel, under, paint_tree, paint_pipeline}

-- What Iframes put around a list: the outermost scroll frame that moves them and where its node is, (0, 0) without one, and
-- clips, outermost first, with the home of each.
pub record Around : Type 0 where
  pub home : Home
  pub origin : Point
  pub clips : List Clip
  pub homes : List Home

-- nothing is around the root pipeline
abbrev pub nothing_around : Around
nothing_around = record { home = None; origin = zero_point; clips = []; homes = [] }

-- the home of a scroll number of the list, where nothing around moves it
abbrev pub home_in : Around → PlacedList → Option ℕ → Home
home_in a l scroll = option_or a.home (option_map (λ sid. (l.pipeline, sid)) scroll)

-- the home of a node
abbrev pub node_home : Around → PlacedList → ℕ → Home
node_home a l node = home_in a l (root_scroll_of l.list.nodes node)

-- where a scroll frame of the list is, by its number as a node; (0, 0) without one
abbrev pub frame_point : PlacedList → Option ℕ → Point
frame_point l None = zero_point
frame_point l (Some frame) = node_point l frame

-- where a home is: around the list, or else in it
abbrev pub origin_by : Home → Point → Point → Point
origin_by None around own = own
origin_by (Some home) around own = around

-- where the home of a node is
abbrev pub node_origin : Around → PlacedList → ℕ → Point
node_origin a l node = origin_by a.home a.origin (frame_point l (root_frame_of l.list.nodes node))

-- the homes of the clips of a chain, after those of the clips around
abbrev pub clip_homes : Around → PlacedList → Option ℕ → List Home
clip_homes a l chain = a.homes ++ map (home_in a l) (homes_of l.list chain)

-- what is around the items of an Iframe
abbrev pub around_iframe : Around → PlacedList → Spot → Around
around_iframe a l spot = record {
  home = node_home a l spot.node;
  origin = node_origin a l spot.node;
  clips = a.clips ++ iframe_clips l spot;
  homes = clip_homes a l spot.chain ++ node_home a l spot.node ∷ [];
}

-- a top item where it stands
pub record TopItem : Type 0 where
  pub around : Around
  pub list : PlacedList
  pub item : Tree

-- what gives the top items of the list of a pipeline whose root is at a point
abbrev pub TopLister : Type 0
TopLister = ℕ → Point → Around → List TopItem

abbrev pub top_item : Around → PlacedList → Tree → List TopItem
top_item a l t = record { around = a; list = l; item = t } ∷ []

abbrev mutual
  -- of one item; `inner` gives those of the lists that Iframes name
  pub tree_tops : TopLister → Around → PlacedList → Tree → List TopItem
  tree_tops inner a l (solid spot colour) = top_item a l (solid spot colour)
  tree_tops inner a l (image spot key u v) = top_item a l (image spot key u v)
  tree_tops inner a l (border spot widths top right bottom left_ radii) = top_item a l (border spot widths top right bottom left_ radii)
  tree_tops inner a l (text spot font colour glyphs) = top_item a l (text spot font colour glyphs)
  tree_tops inner a l (context push ts) = if is_plain l push then trees_tops inner a l ts else top_item a l (context push ts)
  tree_tops inner a l (iframe spot pipeline) = inner pipeline (first_corner (item_rect l spot)) (around_iframe a l spot)
  tree_tops inner a l (hit_area spot tag) = []

  pub trees_tops : TopLister → Around → PlacedList → Trees → List TopItem
  trees_tops inner a l none = []
  trees_tops inner a l (more t ts) = tree_tops inner a l t ++ trees_tops inner a l ts

abbrev pub list_tops : TopLister → Option PlacedList → Around → List TopItem
list_tops inner None a = []
list_tops inner (Some l) a = trees_tops inner a l (told l.list.items)

-- of a pipeline's list, through at most so many levels of pipelines
unfoldable pub tops_in : ℕ → PipelineMap → TopLister
tops_in zero pipelines p origin a = []
tops_in (suc n) pipelines p origin a = list_tops (tops_in n pipelines) (placed_at pipelines p origin) a

abbrev pub pipeline_tops : PipelineMap → TopLister
pipeline_tops pipelines = tops_in 64 pipelines

-- the top items of the scene, back to front
abbrev pub top_items : PipelineMap → List TopItem
top_items pipelines = pipeline_tops pipelines 0 zero_point nothing_around

-- the node at which an item stands
abbrev pub node_of : Tree → ℕ
node_of (solid spot colour) = spot.node
node_of (image spot key u v) = spot.node
node_of (border spot widths top right bottom left_ radii) = spot.node
node_of (text spot font colour glyphs) = spot.node
node_of (context push ts) = push.node
node_of (iframe spot pipeline) = spot.node
node_of (hit_area spot tag) = spot.node

-- the chain of clips that an item names
abbrev pub own_chain : Tree → Option ℕ
own_chain (solid spot colour) = spot.chain
own_chain (image spot key u v) = spot.chain
own_chain (border spot widths top right bottom left_ radii) = spot.chain
own_chain (text spot font colour glyphs) = spot.chain
own_chain (context push ts) = push.chain
own_chain (iframe spot pipeline) = spot.chain
own_chain (hit_area spot tag) = spot.chain

-- the home of a top item
abbrev pub home_of : TopItem → Home
home_of t = node_home t.around t.list (node_of t.item)

-- where that home is
abbrev pub top_origin : TopItem → Point
top_origin t = node_origin t.around t.list (node_of t.item)

-- a top item painted over a backdrop
abbrev pub paint_top : ScenePixel → TopItem → Px → Px
paint_top s t backdrop = paint_tree (paint_pipeline s) s t.list t.item (under s t.around.clips 255) backdrop
