use Rattle.std.proofs.Common.{sym, subst}
use Rattle.blend_rules.specs.Colour.{IsPixel}
use Rattle.primitives.proofs.Colours.{border_pixel}
use Rattle.primitives.proofs.border.border_colour.Goals as goal

pub returns-clause-pixel : goal.returns-clause-pixel
returns-clause-pixel c = λ is. subst IsPixel (sym c.covered_side_colour.ensures) (border_pixel c.args.rect c.args.w c.args.colours c.args.radii _ _ is)
