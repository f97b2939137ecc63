use Rattle.std.proofs.Common.{sym, subst}
use Rattle.blend_rules.specs.Colour.{IsPixel}
use Rattle.primitives.proofs.Colours.{colour_is_pixel}
use Rattle.primitives.proofs.colour.colour_at.Goals as goal

pub returns-clause-pixel : goal.returns-clause-pixel
returns-clause-pixel c = subst IsPixel (sym c.primitive_colour.ensures) (colour_is_pixel c.args.store.now c.args.prim.now _ _ c.know_store.ensures c.rect-rect.ensures.primitive)
