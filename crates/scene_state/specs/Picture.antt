-- What a frame shows.
use Rattle.std.specs.Prelude.{ℤ}
use Rattle.blend_rules.specs.declared.colour.Px.{Px}
use Rattle.painter.specs.Slices.{picture_over}
use Rattle.scene_state.specs.SceneModel.{SceneModel}

-- the colour of the scene's picture at the pixel (x, y)
unfoldable pub picture : SceneModel → ℤ → ℤ → Px
picture s x y = picture_over (record { pipelines = s.pipelines; store = s.store; x = x; y = y }) s.clear
