use Rattle.std.proofs.Common.{◌≡◌, take}
use Rattle.image_store.specs.Bands.{values}
use Rattle.image_store.proofs.image_data.shared_bands.Given as goal

abbrev pub invariant-loop-band : goal.invariant-loop-band
invariant-loop-band l = values l.shared.items ≡ take l.band-index (values l.bands)
