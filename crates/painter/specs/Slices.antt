-- The slices of a scene, and the picture that they give.
use Rattle.std.specs.Prelude.{List}
use Rattle.std.specs.List.{fold}
use Rattle.blend_rules.specs.declared.colour.Px.{Px}
use Rattle.blend_rules.specs.declared.mode.Mode.TheVariants.{Normal}
use Rattle.blend_rules.specs.Colour.{clear, blended}
use Rattle.slice_rules.specs.Runs.{Run, slices_of}
use Rattle.painter.specs.Painter.{ScenePixel}
use Rattle.painter.specs.TopItems.{TopItem, top_items, home_of, paint_top}

-- top items that follow one another, with their home
abbrev pub Slice : Type 0
Slice = Run TopItem

-- a slice is a group by itself: its items on clear
abbrev pub paint_tops : ScenePixel → List TopItem → Px → Px
paint_tops s tops backdrop = fold (λ b t. paint_top s t b) backdrop tops

abbrev pub slice_colour : ScenePixel → Slice → Px
slice_colour s slice = paint_tops s slice.members clear

-- slices over a backdrop, back to front
abbrev pub paint_slices : ScenePixel → List Slice → Px → Px
paint_slices s slices backdrop = fold (λ b slice. blended Normal (slice_colour s slice) b) backdrop slices

-- the scene's colour at the pixel, over the colour behind all
unfoldable pub picture_over : ScenePixel → Px → Px
picture_over s behind = paint_slices s (slices_of home_of (top_items s.pipelines)) behind
