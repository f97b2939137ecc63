-- What a frame shows, and what it does to kept tiles.
use Rattle.std.specs.Prelude.{◌≡◌, ℕ, ◌<◌, pos, List, Option, Some, None}
use Rattle.span_kernels.specs.PlanesModel.{PlanesModel, pixel_at}
use Rattle.scene_state.specs.SceneModel.{SceneModel}
use Rattle.scene_state.specs.Picture.{picture}
use Rattle.scene_slices.specs.Picture.{slices_of_scene}
use Rattle.tile_compositor.specs.FrameModel.{FrameModel}
use Rattle.kept_tiles.specs.Work.{Records, Shown, Work, frame_tiles, frame_work}
use Rattle.renderer.specs.Drops.{sides_of}

-- the tiles that a scene's frame shows, by slice, back to front, then by row and by column
abbrev pub scene_tiles : SceneModel → List Shown
scene_tiles s = frame_tiles (sides_of s.policy) (slices_of_scene s)

-- what is kept after a scene's frame, and how many pixels are drawn for it
abbrev pub work_of_frame : SceneModel → Records → Work
work_of_frame s kept = frame_work kept (scene_tiles s) s.policy.budget

-- planes have these sides
pub record AreSides (w h : ℕ) (planes : PlanesModel) : Type 0 where
  pub width : planes.width ≡ w
  pub height : planes.height ≡ h

-- planes have the sides of the scene's view, and its picture at each pixel
pub record ShowScene (s : SceneModel) (planes : PlanesModel) : Type 0 where
  pub sides : AreSides s.view.0 s.view.1 planes
  pub pixels : (x y : ℕ) → x < s.view.0 → y < s.view.1 → pixel_at planes x y ≡ picture s (pos x) (pos y)

-- a frame shows the scene, and was composed from a store that had counted so many pixels
pub record IsFrameOf (s : SceneModel) (count : ℕ) (frame : FrameModel) : Type 0 where
  pub shows : ShowScene s frame.planes
  pub opened : frame.opened ≡ Some count

-- there is a frame, of which this holds
abbrev pub IsThere : (FrameModel → Type 0) → Option FrameModel → Type 0
IsThere P None = ⊥
IsThere P (Some frame) = P frame
