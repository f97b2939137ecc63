-- What the slices of a scene paint.
use Rattle.std.specs.Prelude.{◌≡◌, ℕ, ℤ, pos, List, IsTrue}
use Rattle.wr_geom.specs.Bounds.{Bounds, holds}
use Rattle.scene_state.specs.SceneModel.{SceneModel}
use Rattle.scene_state.specs.Picture.{picture}
use Rattle.scene_flatten.specs.Tops.{scene_tops}
use Rattle.picture_slices.specs.Slices.{picture_slices}
use Rattle.picture_slices.specs.Values.{slices_over}
use Rattle.picture_slices.specs.declared.slice.Slice.{Slice}

-- the view's rectangle, from (0, 0)
abbrev pub view_rect : SceneModel → Bounds
view_rect s = record { x0 = pos 0; y0 = pos 0; x1 = pos s.view.0; y1 = pos s.view.1 }

-- the slices of a scene
abbrev pub slices_of_scene : SceneModel → List Slice
slices_of_scene s = picture_slices (view_rect s) (scene_tops s)

-- at each pixel of the view, slices over the colour behind all give the scene's picture
abbrev pub PaintThePicture : SceneModel → List Slice → Type 0
PaintThePicture s slices = (x y : ℤ) → IsTrue (holds (view_rect s) x y) → slices_over s.store x y slices s.clear ≡ picture s x y
