use Rattle.blend_rules.proofs.Blends.{scaled_by_full, scaled_by_none, scaled_is_premultiplied, scaled_is_pixel}
use Rattle.blend_rules.proofs.laws.scale_laws.Goals as goal

pub returns : goal.returns
returns c = record { by_full = scaled_by_full; by_none = scaled_by_none; premultiplied = scaled_is_premultiplied; pixel = scaled_is_pixel }
