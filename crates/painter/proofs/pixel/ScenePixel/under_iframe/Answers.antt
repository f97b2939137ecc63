use mir.Val.{SFits}
use Rattle.std.proofs.lemmas.Int.{to_z-of_z}
use Rattle.std.proofs.Common.{rules, w32, ◌∙◌, ap}
use Rattle.wr_geom.specs.declared.point.Point.{Point}
use Rattle.clip_masks.specs.declared.clip.Clip.{Clip}
use Rattle.clip_masks.specs.Clips.{rect_clip}
use Rattle.clip_masks.specs.Coverage.{coverage}
use Rattle.painter.specs.PlacedList.{item_rect}
use Rattle.painter.proofs.Painted.{iframe_under}
use Rattle.painter.proofs.pixel.ScenePixel.under_iframe.Goals as goal

pub returns : goal.returns
returns c =
    let fits_x : SFits w32 c.at-at.result.x = search rules in
    let fits_y : SFits w32 c.at-at.result.y = search rules in
    c.mul.ensures.value
    ∙ iframe_under c.args.self.now c.args.placed.now c.args.spot c.args.cover c.under_chain-cover.result c.cover.result c.under_chain-cover.ensures
    ((simp to_z-of_z at c.cover.ensures) ∙ ap (λ (k : Clip). coverage k c.at-at.result.x c.at-at.result.y) (c.of_rect-rect.ensures.value ∙ ap rect_clip c.item_rect.ensures) ∙ ap (λ (p : Point). coverage (rect_clip (item_rect c.args.placed.now c.args.spot)) p.x p.y) c.at-at.ensures)
