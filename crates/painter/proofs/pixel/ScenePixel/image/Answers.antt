use mir.Val.{SFits}
use Rattle.std.proofs.lemmas.Int.{to_z-of_z}
use Rattle.std.proofs.Common.{rules, w32, ◌∙◌, refl, sym, ap}
use Rattle.wr_geom.specs.Bounds.{Bounds}
use Rattle.wr_geom.specs.declared.point.Point.{Point}
use Rattle.image_store.specs.StoreModel.{image_at}
use Rattle.primitives.specs.Colours.{image_colour}
use Rattle.painter.specs.PlacedList.{PlacedList, item_rect}
use Rattle.painter.specs.Painter.{ScenePixel, image_kind, primitive_of}
use Rattle.painter.proofs.Painted.{outside, shown, used_now}
use Rattle.painter.proofs.pixel.ScenePixel.image.Goals as goal

pub returns-in-None-clause-value : goal.returns-in-None-clause-value
returns-in-None-clause-value c =
    outside c.args.self.now (primitive_of c.args.placed.now c.args.spot (image_kind c.args.self.now.store c.args.placed.now c.args.key c.args.u c.args.v)) c.args.cover c.args.backdrop (c.in-None.ensures.none refl) (c.know_bytes.ensures.pixel c.requires.backdrop)

pub returns-in-Some-clause-value : goal.returns-in-Some-clause-value
returns-in-Some-clause-value c =
    let s = c.args.self.now in
    let l = c.args.placed.now in
    let fits_x : SFits w32 c.at-at.result.x = search rules in
    let fits_y : SFits w32 c.at-at.result.y = search rules in
    let stored = image_at s.store l.pipeline c.args.key in
    c.lay.ensures.value
    ∙ shown s l c.args.spot (image_kind s.store l c.args.key c.args.u c.args.v) c.args.cover c.args.backdrop c.image_colour_at-colour.result c.in-Some.ensures.some.2
    ((simp to_z-of_z at c.image_colour_at-colour.ensures.value)
    ∙ ap (λ (t : ScenePixel). image_colour (image_at t.store c.placed.inside.pipeline c.args.key) c.in-Some.rect c.args.u c.args.v c.at-at.result.x c.at-at.result.y) c.self.view_is
    ∙ ap (λ (k : PlacedList). image_colour (image_at s.store k.pipeline c.args.key) c.in-Some.rect c.args.u c.args.v c.at-at.result.x c.at-at.result.y) c.placed.view_is
    ∙ ap (λ (b : Bounds). image_colour stored b c.args.u c.args.v c.at-at.result.x c.at-at.result.y) c.in-Some.ensures.some.0
    ∙ ap (λ (p : Point). image_colour stored (item_rect l c.args.spot) c.args.u c.args.v p.x p.y) c.at-at.ensures
    ∙ ap (λ o. image_colour o (item_rect l c.args.spot) c.args.u c.args.v s.x s.y) (sym (used_now (λ i. i.generation) stored)))
