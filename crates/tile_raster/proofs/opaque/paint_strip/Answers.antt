use Rattle.std.proofs.Common.{ℕ, sym, ◌∙◌}
use Rattle.blend_rules.specs.declared.colour.Px.{Px}
use Rattle.primitives.specs.Colours.{primitive_colour}
use Rattle.tile_raster.specs.Spans.{x_of}
use Rattle.tile_raster.proofs.Painting.{painted_as}
use Rattle.tile_raster.proofs.Covered.{solid_colour}
use Rattle.tile_raster.proofs.opaque.paint_strip.Goals as goal

pub returns-in-Solid : goal.returns-in-Solid
returns-in-Solid c =
    let t = c.args.noted in
    let first = c.args.strip.first in
    painted_as (λ (k : ℕ) (d : Px). c.in-Solid.colour) (λ (k : ℕ) (d : Px). primitive_colour t.store.now t.primitive.now (x_of first k) first.y) c.args.strip.span _ _
    (λ k h. solid_colour t.store.now t.primitive.now (x_of first k) first.y c.in-Solid.colour (sym c.kind.ensures.value ∙ c.in-Solid.is) (c.requires.inside k h)) c.fill.ensures
