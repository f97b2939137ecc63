use Rattle.std.proofs.Common.{◌∙◌}
use Rattle.image_store.proofs.Keys.{masks_empty}
use Rattle.image_store.proofs.keyed_masks.KeyedMasks.new.Goals as goal

pub invariant_of-result : goal.invariant_of-result
invariant_of-result c = masks_empty c.new-2.result (c.new-2.ensures ∙ c.new.ensures)
