use Rattle.image_store.specs.Bands.{values}
use Rattle.image_store.proofs.Whole.{image_is}
use Rattle.image_store.proofs.image_data.ImageData.w.Goals as goal

pub returns-clause-image : goal.returns-clause-image
returns-clause-image c = rw (← c.self.view_is) (image_is c.self.inside.w c.self.inside.h c.self.inside.generation (values c.self.inside.bands.items) c.self.invariant)
