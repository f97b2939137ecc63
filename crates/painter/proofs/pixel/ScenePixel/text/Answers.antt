use Rattle.std.proofs.Common.{◌∙◌, refl, ap, map}
use Rattle.wr_geom.specs.declared.point.Point.{Point}
use Rattle.primitives.specs.Colours.{text_colour}
use Rattle.painter.specs.PlacedList.{PlacedList}
use Rattle.painter.specs.Painter.{glyph_use, text_kind, primitive_of}
use Rattle.painter.proofs.Painted.{outside, shown}
use Rattle.painter.proofs.pixel.ScenePixel.text.Goals as goal

pub returns-in-None-clause-value : goal.returns-in-None-clause-value
returns-in-None-clause-value c =
    outside c.args.self.now (primitive_of c.args.placed.now c.args.spot (text_kind c.args.self.now.store c.args.placed.now c.args.spot.node c.args.font c.args.colour c.args.glyphs.now)) c.args.cover c.args.backdrop (c.in-None.ensures.none refl) (c.know_bytes.ensures.pixel c.requires.backdrop)

pub returns-in-Some-clause-value : goal.returns-in-Some-clause-value
returns-in-Some-clause-value c =
    let s = c.args.self.now in
    let l = c.args.placed.now in
    c.lay.ensures.value
    ∙ shown s l c.args.spot (text_kind s.store l c.args.spot.node c.args.font c.args.colour c.args.glyphs.now) c.args.cover c.args.backdrop c.text_colour-shown.result c.in-Some.ensures.some.2
    (c.text_colour-shown.ensures.value
    ∙ ap (λ (k : PlacedList). text_colour s.store k.pipeline c.args.font c.args.colour (map (glyph_use s.store k.pipeline c.args.font c.node_point-at.result) c.args.glyphs.now) s.x s.y) c.placed.view_is
    ∙ ap (λ (p : Point). text_colour s.store l.pipeline c.args.font c.args.colour (map (glyph_use s.store l.pipeline c.args.font p) c.args.glyphs.now) s.x s.y) c.node_point-at.ensures.value)
