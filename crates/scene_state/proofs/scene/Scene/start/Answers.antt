use Rattle.std.proofs.Common.{ap, ◌∙◌}
use Rattle.scene_state.specs.Limits.{limit_of}
use Rattle.scene_state.proofs.BrokenLimits.{start_breaks_none}
use Rattle.scene_state.proofs.scene.Scene.start.Goals as goal

pub invariant_of-result : goal.invariant_of-result
invariant_of-result c = ap limit_of c.start.ensures ∙ start_breaks_none
