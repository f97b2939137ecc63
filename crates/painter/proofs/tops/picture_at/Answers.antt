use mir.Val.{SFits}
use Rattle.std.proofs.lemmas.Int.{to_z-of_z}
use Rattle.std.proofs.Common.{rules, w32, ◌∙◌, ℤ, pos, refl, ap, ap₂}
use Rattle.std.specs.List.{fold}
use Rattle.clip_masks.proofs.Chains.{chain_none}
use Rattle.scene_limits.specs.Places.{zero_point}
use Rattle.painter.specs.Painter.{ScenePixel}
use Rattle.painter.specs.declared.progress.Progress.{Progress}
use Rattle.painter.specs.Progress.{after_top}
use Rattle.painter.specs.TopItems.{nothing_around, pipeline_tops}
use Rattle.painter.proofs.Slicing.{one_pass}
use Rattle.painter.proofs.tops.picture_at.Goals as goal

pub returns-clause-value : goal.returns-clause-value
returns-clause-value c =
    let at : ℤ → ℤ → ScenePixel = λ x y. record { pipelines = c.args.pipelines.now; store = c.args.store.now; x = x; y = y } in
    let walked : ℤ → ℤ → Progress → Progress = λ x y p. fold (after_top (at x y)) p (pipeline_tops c.args.pipelines.now 0 zero_point nothing_around) in
    let fits_x : SFits w32 c.from.result = search rules in
    let fits_y : SFits w32 c.from-2.result = search rules in
    c.laid.ensures.value
    ∙ one_pass (at (pos c.args.x) (pos c.args.y)) c.args.behind c.pipeline_tops.result (c.know_bytes.ensures.pixel c.requires.behind)
    ((simp to_z-of_z at c.pipeline_tops.ensures.value) nothing_around refl (chain_none 255 c.from.result c.from-2.result)
    ∙ ap₂ (λ (x y : ℤ). walked x y c.begin-begun.result) c.from.ensures c.from-2.ensures
    ∙ ap (walked (pos c.args.x) (pos c.args.y)) c.begin-begun.ensures.value)
