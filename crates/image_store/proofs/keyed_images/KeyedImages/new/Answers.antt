use Rattle.std.proofs.Common.{◌∙◌}
use Rattle.image_store.proofs.Keys.{keyed_empty}
use Rattle.image_store.proofs.keyed_images.KeyedImages.new.Goals as goal

pub invariant_of-result : goal.invariant_of-result
invariant_of-result c = keyed_empty c.new-2.result c.new-3.result.items c.new-3.result.cap (c.new-2.ensures ∙ c.new.ensures) c.new-3.ensures.items
