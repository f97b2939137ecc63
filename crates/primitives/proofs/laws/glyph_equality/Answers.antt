use Rattle.primitives.proofs.Sames.{same_glyph}
use Rattle.primitives.proofs.laws.glyph_equality.Goals as goal

pub returns : goal.returns
returns c a b h = same_glyph a b h
