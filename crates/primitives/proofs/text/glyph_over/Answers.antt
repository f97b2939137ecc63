use Rattle.std.proofs.Common.{sym, subst}
use Rattle.blend_rules.specs.Colour.{IsPixel}
use Rattle.primitives.proofs.Colours.{glyph_pixel}
use Rattle.primitives.proofs.text.glyph_over.Goals as goal

pub returns-clause-pixel : goal.returns-clause-pixel
returns-clause-pixel c = subst IsPixel (sym c.stored_glyph_over.ensures) (glyph_pixel c.args.store.now c.know_store.ensures c.args.pipeline c.args.font c.args.glyph c.args.at c.args.colour c.args.so_far _ _ c.requires.colour c.requires.so_far)
