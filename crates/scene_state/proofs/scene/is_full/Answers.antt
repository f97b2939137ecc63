use Rattle.scene_state.proofs.BrokenLimits.{full_by_least}
use Rattle.scene_state.proofs.scene.is_full.Goals as goal

pub returns : goal.returns
returns c = full_by_least c.args.store.now c.pixels.result c.pixels.ensures
