use Rattle.std.proofs.Common.{arith}
use Rattle.blend_rules.specs.declared.plane.Plane.TheVariants.{A}
use Rattle.tile_compositor.proofs.Laying.{clear_span, opaque_span}
use Rattle.tile_compositor.proofs.row.lay_span.Goals as goal

pub returns-then-greatest-eq0 : goal.returns-then-greatest-eq0
returns-then-greatest-eq0 c =
    clear_span c.args.source c.args.span c.args.planes.now c.requires.span c.requires.source c.requires.frame
    (λ k h. let most = c.range_of-least.ensures.greatest k (omega (arith, h, c.requires.source.long A)) in omega (arith, most, c.if-greatest-eq0.true))

pub returns-then-least : goal.returns-then-least
returns-then-least c =
    opaque_span c.args.source c.args.span c.args.planes.now c.requires.span c.requires.source c.copy_span.new.planes
    (λ k h. let least = c.range_of-least.ensures.least k (omega (arith, h, c.requires.source.long A)) in omega (arith, least, c.if-least.true)) c.copy_span.ensures
