use mir.Val.{SFits}
use Rattle.std.proofs.lemmas.Int.{to_z-of_z}
use Rattle.std.proofs.Common.{rules, w32, ◌∙◌, refl, sym, ap, subst}
use Rattle.wr_geom.specs.Bounds.{Bounds}
use Rattle.wr_geom.specs.declared.point.Point.{Point}
use Rattle.display_list.specs.Facts.{IsBorder}
use Rattle.primitives.specs.declared.kind.Kind.TheVariants as kind
use Rattle.primitives.specs.Borders.{border_colour}
use Rattle.primitives.proofs.Moves.{border_moved}
use Rattle.painter.specs.PlacedList.{item_rect, node_point}
use Rattle.painter.specs.Painter.{primitive_of}
use Rattle.painter.proofs.Painted.{outside, shown}
use Rattle.painter.proofs.pixel.ScenePixel.border.Goals as goal

pub border_colour-colour-requires-clause-border : goal.border_colour-colour-requires-clause-border
border_colour-colour-requires-clause-border c =
    subst (λ (b : Bounds). IsBorder b c.args.widths c.args.radii) (sym c.in-Some.ensures.some.0) (border_moved c.args.spot.rect (node_point c.args.placed.now c.args.spot.node) c.args.widths c.args.radii c.requires.border)

pub returns-in-None-clause-value : goal.returns-in-None-clause-value
returns-in-None-clause-value c =
    outside c.args.self.now (primitive_of c.args.placed.now c.args.spot (kind.Border c.args.widths c.args.colours.top c.args.colours.right c.args.colours.bottom c.args.colours.left c.args.radii)) c.args.cover c.args.backdrop (c.in-None.ensures.none refl) (c.know_bytes.ensures.pixel c.requires.backdrop)

pub returns-in-Some-clause-value : goal.returns-in-Some-clause-value
returns-in-Some-clause-value c =
    let s = c.args.self.now in
    let l = c.args.placed.now in
    let k = c.args.colours in
    let fits_x : SFits w32 c.at-at.result.x = search rules in
    let fits_y : SFits w32 c.at-at.result.y = search rules in
    c.lay.ensures.value
    ∙ shown s l c.args.spot (kind.Border c.args.widths k.top k.right k.bottom k.left c.args.radii) c.args.cover c.args.backdrop c.border_colour-colour.result c.in-Some.ensures.some.2
    ((simp to_z-of_z at c.border_colour-colour.ensures.value)
    ∙ ap (λ (b : Bounds). border_colour b c.args.widths k c.args.radii c.at-at.result.x c.at-at.result.y) c.in-Some.ensures.some.0
    ∙ ap (λ (p : Point). border_colour (item_rect l c.args.spot) c.args.widths k c.args.radii p.x p.y) c.at-at.ensures)
