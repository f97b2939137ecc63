use mir.Val.{SFits}
use Rattle.std.proofs.lemmas.Int.{to_z-of_z}
use Rattle.std.proofs.Common.{rules, w32, ◌∙◌, sym, ap, ◌+ℤ◌}
use Rattle.wr_geom.specs.declared.point.Point.{Point}
use Rattle.image_store.specs.StoreModel.{glyph_at}
use Rattle.primitives.specs.Colours.{mask_over}
use Rattle.painter.specs.Painter.{ScenePixel}
use Rattle.painter.proofs.Painted.{used_now}
use Rattle.painter.proofs.pixel.ScenePixel.with_glyph.Goals as goal

pub returns-clause-value : goal.returns-clause-value
returns-clause-value c =
    let s = c.args.self.now in
    let g = c.args.g in
    let fits_x : SFits w32 c.at-here.result.x = search rules in
    let fits_y : SFits w32 c.at-here.result.y = search rules in
    let stored = glyph_at s.store c.args.pipeline c.args.font g.glyph in
    let corner : Point = record { x = c.args.at.x +ℤ g.x; y = c.args.at.y +ℤ g.y } in
    (simp to_z-of_z at c.glyph_over.ensures.value)
    ∙ ap (λ (k : Point). mask_over (glyph_at c.self.inside.store.now c.args.pipeline c.args.font g.glyph) k c.args.colour c.args.so_far c.at-here.result.x c.at-here.result.y) c.glyph_corner-corner.ensures
    ∙ ap (λ (t : ScenePixel). mask_over (glyph_at t.store c.args.pipeline c.args.font g.glyph) corner c.args.colour c.args.so_far c.at-here.result.x c.at-here.result.y) c.self.view_is
    ∙ ap (λ (p : Point). mask_over stored corner c.args.colour c.args.so_far p.x p.y) c.at-here.ensures
    ∙ ap (λ o. mask_over o corner c.args.colour c.args.so_far s.x s.y) (sym (used_now (λ m. m.generation) stored))
