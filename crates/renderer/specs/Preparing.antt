-- What a frame needs before a tile of it is drawn.
use Rattle.std.specs.Prelude.{◌≡◌, ◌≤◌, List, length, All, IsTrue, Option, Some, None}
use Rattle.primitives.specs.Stacks.{is_shallow}
use Rattle.picture_slices.specs.Facts.{AreSlices}
use Rattle.picture_slices.specs.declared.slice.Slice.{Slice}
use Rattle.scene_state.specs.SceneModel.{SceneModel}
use Rattle.scene_slices.specs.Picture.{PaintThePicture, slices_of_scene, view_rect}
use Rattle.tile_compositor.specs.FrameModel.{FrameModel}
use Rattle.shown_frames.specs.Placing.{all_placed}
use Rattle.renderer.specs.declared.preparing.Prepared.{Prepared}

-- these are the slices of a scene
pub record AreSlicesOf (s : SceneModel) (all : List Slice) : Type 0 where
  pub value : all ≡ slices_of_scene s
  pub slices : AreSlices (view_rect s) all
  pub picture : PaintThePicture s all
  pub shallow : All (λ slice. IsTrue (is_shallow 64 slice.entries)) all
  pub few : All (λ slice. length slice.entries ≤ 131072) all

pub record IsPrepared (s : SceneModel) (p : Prepared) : Type 0 where
  pub slices : AreSlicesOf s p.slices
  pub placed : p.placed ≡ all_placed p.slices

-- another frame, if there is one, in place of the last
abbrev pub chosen : Option FrameModel → Option FrameModel → Option FrameModel
chosen None last = last
chosen (Some other) last = Some other
