use Rattle.std.proofs.Common.{ℕ, ◌≡◌, slice_index, subst, ap, ◌∙◌}
use Rattle.blend_rules.specs.Colour.{blended, blended_channel}
use Rattle.blend_rules.specs.declared.colour.Px.{Px}
use Rattle.blend_rules.proofs.Blends.{blend_is_pixel}
use Rattle.span_kernels.specs.Bytes.{over_byte}
use Rattle.tile_raster.specs.Rows.{LineModel, pixel, HasPixels, IsPainted}
use Rattle.tile_raster.proofs.Planes.{blended_under, over_under}
use Rattle.tile_raster.proofs.Lines.{planes_painted, painted_line, blended_by_planes}
use Rattle.tile_raster.proofs.line.Line.blend.Goals as goal

pub invariant_of-self : goal.invariant_of-self
invariant_of-self c =
    let m = c.args.mode in
    let g = c.args.source.now in
    let i = c.self.inside in
    let old : LineModel = record { blue = i.blue.items; green = i.green.items; red = i.red.items; alpha = i.alpha.items } in
    let new : LineModel = record { blue = c.blend_plane.new.plane.items; green = c.blend_plane-2.new.plane.items; red = c.blend_plane-3.new.plane.items; alpha = c.row_over_plane.new.plane.items } in
    let alphas : c.as_slice-alphas.result.now ≡ g.alpha = c.as_slice-alphas.ensures.value ∙ ap (λ (l : LineModel). l.alpha) c.source.view_is in
    let blue : c.deref.result.now ≡ g.blue = c.deref.ensures.value ∙ ap (λ (l : LineModel). l.blue) c.source.view_is in
    let green : c.deref-3.result.now ≡ g.green = c.deref-3.ensures.value ∙ ap (λ (l : LineModel). l.green) c.source.view_is in
    let red : c.deref-5.result.now ≡ g.red = c.deref-5.ensures.value ∙ ap (λ (l : LineModel). l.red) c.source.view_is in
    let eb = blended_under m _ _ _ _ _ _ c.args.span _ _ alphas c.deref-2.ensures.value blue c.blend_plane.ensures in
    let eg = blended_under m _ _ _ _ _ _ c.args.span _ _ alphas c.deref-4.ensures.value green c.blend_plane-2.ensures in
    let er = blended_under m _ _ _ _ _ _ c.args.span _ _ alphas c.deref-6.ensures.value red c.blend_plane-3.ensures in
    let ea = over_under _ _ c.args.span _ _ alphas c.row_over_plane.ensures in
    let pixels : HasPixels g = subst HasPixels c.source.view_is c.source.invariant.pixels in
    painted_line (λ (k : ℕ) (d : Px). blended m (pixel g k) d)
    (λ (k d : ℕ). blended_channel m (slice_index g.alpha k) (slice_index old.alpha k) (slice_index g.blue k) d) (λ (k d : ℕ). blended_channel m (slice_index g.alpha k) (slice_index old.alpha k) (slice_index g.green k) d)
    (λ (k d : ℕ). blended_channel m (slice_index g.alpha k) (slice_index old.alpha k) (slice_index g.red k) d) (λ (k d : ℕ). over_byte (slice_index g.alpha k) (slice_index g.alpha k) d) c.args.span old new
    eb eg er ea (λ k h. blended_by_planes m (pixel g k) (pixel old k) (pixels k)) c.self.invariant
    (λ k h. blend_is_pixel m (pixel g k) (pixel old k) (pixels k).byte (c.self.invariant.pixels k).byte)

pub returns : goal.returns
returns c =
    let m = c.args.mode in
    let g = c.args.source.now in
    let i = c.self.inside in
    let old : LineModel = record { blue = i.blue.items; green = i.green.items; red = i.red.items; alpha = i.alpha.items } in
    let new : LineModel = record { blue = c.blend_plane.new.plane.items; green = c.blend_plane-2.new.plane.items; red = c.blend_plane-3.new.plane.items; alpha = c.row_over_plane.new.plane.items } in
    let alphas : c.as_slice-alphas.result.now ≡ g.alpha = c.as_slice-alphas.ensures.value ∙ ap (λ (l : LineModel). l.alpha) c.source.view_is in
    let blue : c.deref.result.now ≡ g.blue = c.deref.ensures.value ∙ ap (λ (l : LineModel). l.blue) c.source.view_is in
    let green : c.deref-3.result.now ≡ g.green = c.deref-3.ensures.value ∙ ap (λ (l : LineModel). l.green) c.source.view_is in
    let red : c.deref-5.result.now ≡ g.red = c.deref-5.ensures.value ∙ ap (λ (l : LineModel). l.red) c.source.view_is in
    let eb = blended_under m _ _ _ _ _ _ c.args.span _ _ alphas c.deref-2.ensures.value blue c.blend_plane.ensures in
    let eg = blended_under m _ _ _ _ _ _ c.args.span _ _ alphas c.deref-4.ensures.value green c.blend_plane-2.ensures in
    let er = blended_under m _ _ _ _ _ _ c.args.span _ _ alphas c.deref-6.ensures.value red c.blend_plane-3.ensures in
    let ea = over_under _ _ c.args.span _ _ alphas c.row_over_plane.ensures in
    let pixels : HasPixels g = subst HasPixels c.source.view_is c.source.invariant.pixels in
    subst (λ (line : LineModel). IsPainted (λ (k : ℕ) (d : Px). blended m (pixel g k) d) c.args.span line new) c.self.view_is
    (planes_painted (λ (k : ℕ) (d : Px). blended m (pixel g k) d)
    (λ (k d : ℕ). blended_channel m (slice_index g.alpha k) (slice_index old.alpha k) (slice_index g.blue k) d) (λ (k d : ℕ). blended_channel m (slice_index g.alpha k) (slice_index old.alpha k) (slice_index g.green k) d)
    (λ (k d : ℕ). blended_channel m (slice_index g.alpha k) (slice_index old.alpha k) (slice_index g.red k) d) (λ (k d : ℕ). over_byte (slice_index g.alpha k) (slice_index g.alpha k) d) c.args.span old new
    eb eg er ea (λ k h. blended_by_planes m (pixel g k) (pixel old k) (pixels k)))
