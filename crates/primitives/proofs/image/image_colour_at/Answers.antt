use Rattle.std.proofs.Common.{sym, subst}
use Rattle.blend_rules.specs.Colour.{IsPixel}
use Rattle.primitives.proofs.Colours.{image_pixel}
use Rattle.primitives.proofs.image.image_colour_at.Goals as goal

pub returns-clause-pixel : goal.returns-clause-pixel
returns-clause-pixel c = subst IsPixel (sym c.stored_image_colour.ensures) (image_pixel c.args.store.now c.know_store.ensures c.args.pipeline c.args.key c.args.rect c.args.u c.args.v _ _)
