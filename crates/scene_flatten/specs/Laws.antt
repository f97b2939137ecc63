-- What holds of entries and of the top items of a scene, as laws on the definitions.
use Rattle.std.specs.Prelude.{◌≡◌, ◌≤◌, ℕ, ℤ, List, length, map, All, IsTrue}
use Rattle.wr_geom.specs.declared.point.Point.{Point}
use Rattle.blend_rules.specs.declared.colour.Px.{Px}
use Rattle.clip_masks.specs.declared.clip.Clip.{Clip}
use Rattle.display_list.specs.Trees.{Tree}
use Rattle.primitives.specs.Stacks.{Stack, run, is_shallow, IsRow}
use Rattle.primitives.specs.Tops.{first_clips, top_entries}
use Rattle.scene_limits.specs.Places.{zero_point}
use Rattle.painter.specs.PlacedList.{PlacedList}
use Rattle.painter.specs.Painter.{ScenePixel, under, paint_tree, paint_pipeline}
use Rattle.painter.specs.TopItems.{TopItem, top_items, paint_top}
use Rattle.painter.specs.Slices.{paint_tops}
use Rattle.painter.specs.Shared.{top_clips}
use Rattle.scene_state.specs.SceneModel.{SceneModel}
use Rattle.scene_state.specs.Limits.{IsScene}
use Rattle.scene_flatten.specs.Entries.{tree_entries, pipeline_entries}
use Rattle.scene_flatten.specs.Tops.{top_of, scene_tops}

-- what is painted over the colour on top; the open groups stay
abbrev pub over : (Px → Px) → Stack → Stack
over paint st = record { top = paint st.top; groups = st.groups }

-- a scene at the pixel (x, y)
abbrev pub scene_pixel : SceneModel → ℤ → ℤ → ScenePixel
scene_pixel scene x y = record { pipelines = scene.pipelines; store = scene.store; x = x; y = y }

-- ---- entries

-- an item's entries, run over any stack, give what the painter gives of it over the colour on top
abbrev pub ItemEntriesPaint : Type 0
ItemEntriesPaint =
    (s : ScenePixel) (l : PlacedList) (around : List Clip) (t : Tree) (st : Stack)
    → run s.store s.x s.y (tree_entries (pipeline_entries s.pipelines s.store) s.store l around t) st
    ≡ over (paint_tree (paint_pipeline s) s l t (under s around 255)) st

-- and so do those of a pipeline
abbrev pub PipelineEntriesPaint : Type 0
PipelineEntriesPaint =
    (s : ScenePixel) (p : ℕ) (origin : Point) (around : List Clip) (st : Stack)
    → run s.store s.x s.y (pipeline_entries s.pipelines s.store p origin around) st
    ≡ over (paint_pipeline s p origin (under s around 255)) st

-- the entries of an item are primitives and whole groups
abbrev pub ItemEntriesAreRows : Type 0
ItemEntriesAreRows = (s : ScenePixel) (l : PlacedList) (around : List Clip) (t : Tree) → IsRow (tree_entries (pipeline_entries s.pipelines s.store) s.store l around t)

-- ---- top items

-- a top item's entries give what the painter gives of it
abbrev pub TopPaintsItsItem : Type 0
TopPaintsItsItem = (s : ScenePixel) (t : TopItem) (st : Stack) → run s.store s.x s.y (top_of s.pipelines s.store t).entries st ≡ over (paint_top s t) st

-- and those of top items in order what it gives of them in order
abbrev pub TopsPaintTheirItems : Type 0
TopsPaintTheirItems =
    (s : ScenePixel) (ts : List TopItem) (st : Stack)
    → run s.store s.x s.y (top_entries (map (top_of s.pipelines s.store) ts)) st ≡ over (paint_tops s ts) st

-- all of a scene's give what its root pipeline gives
abbrev pub TopsPaintTheRoot : Type 0
TopsPaintTheRoot =
    (scene : SceneModel) (x y : ℤ) (st : Stack)
    → IsScene scene
    → run scene.store x y (top_entries (scene_tops scene)) st ≡ over (paint_pipeline (scene_pixel scene x y) 0 zero_point 255) st

-- the first entry of each has the clips of the top item
abbrev pub TopsHaveTheirClips : Type 0
TopsHaveTheirClips =
    (scene : SceneModel)
    → IsScene scene
    → All (λ t. first_clips (top_of scene.pipelines scene.store t).entries ≡ top_clips t) (top_items scene.pipelines)

-- in their entries, one after another, at most 64 groups nest
abbrev pub TopsAreShallow : Type 0
TopsAreShallow = (scene : SceneModel) → IsScene scene → IsTrue (is_shallow 64 (top_entries (scene_tops scene)))

-- and there are at most two for each of the 65,536 items that a scene may have
abbrev pub TopsHaveFewEntries : Type 0
TopsHaveFewEntries = (scene : SceneModel) → IsScene scene → length (top_entries (scene_tops scene)) ≤ 131072
