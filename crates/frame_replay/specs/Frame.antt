-- The record of a frame.
use Rattle.std.specs.Prelude.{ℕ, pos, List, ◌∷◌, ◌++◌, map}
use Rattle.std.specs.List.{flat_map, range_with_len}
use Rattle.blend_rules.specs.Colour.{colour_bytes}
use Rattle.blend_rules.specs.declared.colour.Px.{Px}
use Rattle.field_forms.specs.Spelling.{u16_bytes}
use Rattle.span_kernels.specs.PlanesModel.{PlanesModel}
use Rattle.span_kernels.specs.PlanesModel as planar
use Rattle.scene_state.specs.Picture.{picture}
use Rattle.scene_state.specs.SceneModel.{SceneModel}
use Rattle.frame_replay.specs.Drawn.{drawn_bytes, drawn_pipelines}

-- the colour of the pixel in a column and a row
abbrev pub pixel_at : SceneModel → ℕ → ℕ → Px
pixel_at s x y = picture s (pos x) (pos y)

-- the first so many pixels of a row, from the left
unfoldable pub row_pixels : SceneModel → ℕ → ℕ → List Px
row_pixels s y count = map (λ x. pixel_at s x y) (range_with_len 0 count)

-- rows from the top, each from the left
unfoldable pub row_by_row : {A : Type 0} → ℕ → ℕ → (ℕ → ℕ → A) → List A
row_by_row width height f = flat_map (λ y. map (λ x. f x y) (range_with_len 0 width)) (range_with_len 0 height)

-- the pixels of the view
abbrev pub view_pixels : SceneModel → List Px
view_pixels s = row_by_row s.view.0 s.view.1 (pixel_at s)

-- what a frame shows: its sides in pixels, and its pixels, row by row from the top
pub record FramePixels : Type 0 where
  pub width : ℕ
  pub height : ℕ
  pub pixels : List Px

abbrev pub scene_pixels : SceneModel → FramePixels
scene_pixels s = record { width = s.view.0; height = s.view.1; pixels = view_pixels s }

abbrev pub plane_pixels : PlanesModel → FramePixels
plane_pixels p = record { width = p.width; height = p.height; pixels = row_by_row p.width p.height (planar.pixel_at p) }

-- the view's sides, and the pipelines that are drawn
unfoldable pub frame_head : SceneModel → List ℕ
frame_head s = 70 ∷ (u16_bytes s.view.0 ++ (u16_bytes s.view.1 ++ drawn_bytes (drawn_pipelines s)))

-- these, and the pixels
abbrev pub frame_record : SceneModel → List ℕ
frame_record s = frame_head s ++ flat_map colour_bytes (view_pixels s)
