-- What holds of the clips of top items, and of what a slice shows, as laws on the definitions.
use Rattle.std.specs.Prelude.{◌≡◌, length, All, IsTrue, IsFalse}
use Rattle.wr_geom.specs.Bounds.{Bounds, holds}
use Rattle.blend_rules.specs.Colour.{clear}
use Rattle.pipelines.specs.Table.{PipelineMap}
use Rattle.slice_rules.specs.Runs.{slices_of}
use Rattle.slice_rules.specs.Shared.{shown_rect}
use Rattle.painter.specs.Painter.{ScenePixel}
use Rattle.painter.specs.TopItems.{top_items, home_of}
use Rattle.painter.specs.Slices.{slice_colour}
use Rattle.painter.specs.Laws.{IsScenePixel}
use Rattle.painter.specs.Shared.{top_clips, top_homes, homed_clips}

-- each clip of a top item has a home
abbrev pub EachClipHasAHome : Type 0
EachClipHasAHome = (pipelines : PipelineMap) → All (λ t. length (top_homes t) ≡ length (top_clips t)) (top_items pipelines)

-- at the pixels of a view outside of what a slice shows, the slice is clear
abbrev pub ClearOutsideShown : Type 0
ClearOutsideShown =
    (s : ScenePixel) (view : Bounds)
    → IsScenePixel s → IsTrue (holds view s.x s.y)
    → All (λ slice. IsFalse (holds (shown_rect homed_clips view slice) s.x s.y) → slice_colour s slice ≡ clear) (slices_of home_of (top_items s.pipelines))
