use Rattle.std.proofs.Common.{take}
use Rattle.blend_rules.specs.Pixels.{AreOpaque}
use Rattle.image_store.specs.Bands.{joined, values}
use Rattle.image_store.proofs.image_data.are_opaque.Given as goal

abbrev pub invariant-loop-band : goal.invariant-loop-band
invariant-loop-band l = AreOpaque (joined (take l.band-index (values l.bands)))
