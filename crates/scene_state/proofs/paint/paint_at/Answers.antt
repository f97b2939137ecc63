use Rattle.std.proofs.Common.{◌≡◌, Bool, Option, Some, None, refl, sym, ap, ◌∙◌}
use Rattle.std.proofs.lemmas.Option.{none-some}
use Rattle.wr_io.specs.declared.fault.Code.{Code}
use Rattle.scene_state.specs.Limits.{first_limit, is_full}
use Rattle.scene_limits.specs.Limits.{scene_fault}
use Rattle.scene_state.proofs.paint.paint_at.Goals as goal

-- where no limit is broken, none is of what is drawn
unbroken : (o : Option Code) (full : Bool) → first_limit o full ≡ None → o ≡ None
unbroken None full e = refl
unbroken (Some code) full e = absurd (none-some code (sym e))

pub picture_at-requires-clause-limits : goal.picture_at-requires-clause-limits
picture_at-requires-clause-limits c =
    ap scene_fault c.pipelines.ensures ∙ unbroken (scene_fault c.args.scene.now.pipelines) (is_full c.args.scene.now.store) c.know_scene.ensures.limits
