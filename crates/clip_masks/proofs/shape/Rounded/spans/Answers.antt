use Rattle.std.proofs.Common.{arith, ◌≡◌, ap, to_z, of_z, w32}
use Rattle.std.proofs.lemmas.Int.{ints}
use Rattle.wr_geom.specs.Bounds.{Bounds, IsRect}
use Rattle.wr_geom.proofs.Points.{misses_it}
use Rattle.clip_masks.proofs.Points.{samples_beside, ge_is, gt_is}
use Rattle.clip_masks.proofs.Rows.{empty_spans, full_spans}
use Rattle.clip_masks.proofs.shape.Rounded.spans.Goals as goal

pub returns-then-y-y0 : goal.returns-then-y-y0
returns-then-y-y0 c =
    let ok : IsRect c.args.self.now.rect = rw c.rect-rect.ensures at c.x0-left.ensures.rect in
    let y0 = ap (λ (b : Bounds). b.y0) c.rect-rect.ensures in
    let y1 = ap (λ (b : Bounds). b.y1) c.rect-rect.ensures in
    let x0 = ap (λ (b : Bounds). b.x0) c.rect-rect.ensures in
    empty_spans c.args.self.now c.args.y c.args.self.now.rect.x0 _ ok.in_range.left (omega (arith, ints)) (omega (arith, ints)) (omega (arith, ints)) (omega (arith, ints))
    (λ x. samples_beside c.args.self.now x c.args.y (misses_it _ _ _ (λ i. let t = i.top in let b = i.bottom in grind (arith, ints))))

pub returns : goal.returns
returns c =
    let s = c.args.self.now in
    let fits_y = c.ranges.y in
    let ok : IsRect s.rect = rw c.rect-rect.ensures at c.x0-left.ensures.rect in
    let y0 = ap (λ (b : Bounds). b.y0) c.rect-rect.ensures in
    let y1 = ap (λ (b : Bounds). b.y1) c.rect-rect.ensures in
    let at_y : to_z w32 (of_z w32 c.args.y) ≡ c.args.y = omega (arith, ints) in
    let at_y0 : to_z w32 (of_z w32 c.y0.result) ≡ s.rect.y0 = omega (arith, ints) in
    let at_y1 : to_z w32 (of_z w32 c.y1.result) ≡ s.rect.y1 = omega (arith, ints) in
    let above = ge_is c.args.y s.rect.y0 (rw (at_y, at_y0) at c.if-y-y0.false) in
    let below = gt_is s.rect.y1 c.args.y (rw (at_y1, at_y) at c.if-y1-y.false) in
    let first = rw c.radii-radii.ensures.value at c.ends-first.ensures in
    let last = rw c.radii-radii.ensures.value at c.ends-last.ensures in
    let is = rw c.rect-rect.ensures at c.between.ensures in
    full_spans s c.args.y c.between.result _ _ c.ends-first.result c.ends-last.result ok (omega (arith, ints)) (omega (arith, ints)) first last is
