use Rattle.std.proofs.Common.{◌∙◌, refl}
use Rattle.primitives.specs.declared.kind.Kind.TheVariants as kind
use Rattle.painter.specs.Painter.{primitive_of}
use Rattle.painter.proofs.Painted.{outside, shown}
use Rattle.painter.proofs.pixel.ScenePixel.solid.Goals as goal

pub returns-in-None-clause-value : goal.returns-in-None-clause-value
returns-in-None-clause-value c =
    outside c.args.self.now (primitive_of c.args.placed.now c.args.spot (kind.Solid c.args.colour)) c.args.cover c.args.backdrop (c.in-None.ensures.none refl) (c.know_bytes.ensures.pixel c.requires.backdrop)

pub returns-in-Some-clause-value : goal.returns-in-Some-clause-value
returns-in-Some-clause-value c =
    c.lay.ensures.value ∙ shown c.args.self.now c.args.placed.now c.args.spot (kind.Solid c.args.colour) c.args.cover c.args.backdrop c.args.colour c.in-Some.ensures.some.2 refl
