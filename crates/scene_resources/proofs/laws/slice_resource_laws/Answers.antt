use Rattle.scene_resources.proofs.Uses.{slices_are_current}
use Rattle.scene_resources.proofs.laws.slice_resource_laws.Goals as goal

pub returns : goal.returns
returns c = record { stored = slices_are_current }
