-- The top items of a scene as entries.
use Rattle.std.specs.Prelude.{ℕ, List, [], map, Option, Some, None}
use Rattle.image_store.specs.StoreModel.{StoreModel}
use Rattle.pipelines.specs.Table.{PipelineMap}
use Rattle.display_list.specs.declared.item.Spot.{Spot}
use Rattle.display_list.specs.Trees.{Tree}
use Rattle.primitives.specs.declared.entry.Entry.{Entry}
use Rattle.primitives.specs.declared.entry.Top.{Top}
use Rattle.primitives.specs.declared.kind.Kind.{Kind}
use Rattle.painter.specs.PlacedList.{PlacedList}
use Rattle.painter.specs.TopItems.{Around, TopItem, top_item, top_items, node_home, node_origin, clip_homes, home_of, top_origin}
use Rattle.painter.specs.Shared.{top_homes}
use Rattle.scene_state.specs.SceneModel.{SceneModel}
use Rattle.scene_flatten.specs.Entries.{tree_entries, pipeline_entries}

-- a top item: with which scroll frame it moves and where that is, the home of each of its clips, and its entries
abbrev pub top_of : PipelineMap → StoreModel → TopItem → Top
top_of pipelines store t = record {
  scroll = home_of t;
  origin = top_origin t;
  homes = top_homes t;
  entries = tree_entries (pipeline_entries pipelines store) store t.list t.around.clips t.item;
}

-- the scene's, back to front
abbrev pub scene_tops : SceneModel → List Top
scene_tops s = map (top_of s.pipelines s.store) (top_items s.pipelines)

-- ---- while they are made

-- entries of an item at a node and under a chain, as a top
abbrev pub top_at : Around → PlacedList → ℕ → Option ℕ → List Entry → Top
top_at a l node chain es = record { scroll = node_home a l node; origin = node_origin a l node; homes = clip_homes a l chain; entries = es }

-- the top item of an item, where it is a primitive
abbrev pub primitive_tops : Around → PlacedList → Tree → Option (Spot × Kind) → List TopItem
primitive_tops a l t None = []
primitive_tops a l t (Some p) = top_item a l t
