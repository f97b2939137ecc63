use Rattle.image_store.proofs.LookupLaws.{image_is_put, image_is_gone, glyph_is_put, font_is_gone}
use Rattle.image_store.proofs.laws.lookup_laws.Goals as goal

pub returns : goal.returns
returns c = record { image_put = image_is_put; image_gone = image_is_gone; glyph_put = glyph_is_put; font_gone = font_is_gone }
