use Rattle.std.proofs.Common.{sym, ap, ◌∙◌}
use Rattle.scene_limits.specs.Limits.{scene_fault}
use Rattle.scene_state.specs.Limits.{is_full}
use Rattle.scene_state.proofs.Untouched.{none_of_drawn}
use Rattle.scene_state.proofs.scene.Scene.drawn_limit.Goals as goal

pub returns : goal.returns
returns c =
    let s = c.args.self.now in
    sym (ap scene_fault (c.requires c.if-touched.false) ∙ none_of_drawn (scene_fault s.pipelines) (is_full s.store) c.know_scene.ensures.limits)
