use Rattle.std.proofs.Common.{◌≡◌, ◌∙◌, true, sym, ap}
use Rattle.wr_geom.specs.Bounds.{Bounds, holds}
use Rattle.wr_geom.specs.declared.point.Point.{Point}
use Rattle.clip_masks.proofs.Points.{has_pixel}
use Rattle.painter.specs.PlacedList.{item_rect}
use Rattle.painter.proofs.pixel.ScenePixel.rect_here.Goals as goal

pub returns-then-contains-clause-some : goal.returns-then-contains-clause-some
returns-then-contains-clause-some c =
    let s = c.args.self.now in
    let is : holds c.item_rect-rect.result s.x s.y ≡ true = ap (λ (p : Point). holds c.item_rect-rect.result p.x p.y) (sym c.at.ensures) ∙ sym c.contains.ensures ∙ c.if-contains.true in
    let there : holds (item_rect c.args.placed.now c.args.spot) s.x s.y ≡ true = ap (λ (b : Bounds). holds b s.x s.y) (sym c.item_rect-rect.ensures) ∙ is in
    (c.item_rect-rect.ensures, has_pixel c.item_rect-rect.result s.x s.y is, there)
