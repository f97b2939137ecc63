-- What a renderer holds, as contracts see it.
use Rattle.std.specs.Prelude.{◌≡◌, true}
use Rattle.renderer.specs.declared.parts.Parts.{Parts}
use Rattle.renderer.specs.Frames.{IsThere, ShowScene}
use Rattle.renderer.specs.Kept.{IsFresh}
use Rattle.renderer.specs.RendererModel.{RendererModel}

abbrev pub model_of : Parts → RendererModel
model_of p = record { scene = p.scene; last = p.gens; kept = p.kept; frame = p.frame }

abbrev pub IsFreshIn : Parts → Type 0
IsFreshIn p = IsFresh p.scene p.gens p.kept

-- where the last frame is said to be current, it shows the scene as it stands
pub record IsCurrentIn (p : Parts) : Type 0 where
  pub current : p.is_current ≡ true → IsThere (λ f. ShowScene p.scene f.planes) p.frame

-- drawing works with rows of 1,024 pixels, the widest that a tile has
pub record HasScratch (p : Parts) : Type 0 where
  pub wide : p.scratch.width ≡ 1024
