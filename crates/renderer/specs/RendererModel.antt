-- A renderer as contracts see it.
use Rattle.std.specs.Prelude.{ℕ, [], Option, None, refl}
use Rattle.std.specs.FinMap as map
use Rattle.std.specs.Coded.{Coded, code_by, coded×, coded_ℕ, coded_option}
use Rattle.kept_tiles.specs.KeptCode.{kept_code}
use Rattle.kept_tiles.specs.Tiles.{KeptModel}
use Rattle.scene_state.specs.SceneModel.{SceneModel, scene_code, start}
use Rattle.tile_compositor.specs.FrameModel.{FrameModel}
use Rattle.tile_compositor.specs.contracts.frame.Frame as frames

-- the scene, the last generation that was given, the kept tiles and the last frame, once there was one
pub record RendererModel : Type 0 where
  pub scene : SceneModel
  pub last : ℕ
  pub kept : KeptModel
  pub frame : Option FrameModel

abbrev pub renderer_code : Coded RendererModel
renderer_code =
    code_by (SceneModel × (ℕ × (KeptModel × Option FrameModel)))
    (coded× scene_code (coded× coded_ℕ (coded× kept_code (coded_option frames.the_row.coded))))
    (λ r. (r.scene, (r.last, (r.kept, r.frame)))) (λ p. record { scene = p.0; last = p.1.0; kept = p.1.1.0; frame = p.1.1.1 }) (λ _. refl)

-- no tile is kept, and none ever was
abbrev pub none_kept : KeptModel
none_kept = record { interner = map.empty; store = record { tiles = []; window = None; opened = 0 } }

-- before the first transaction
abbrev pub new_renderer : RendererModel
new_renderer = record { scene = start; last = 0; kept = none_kept; frame = None }
