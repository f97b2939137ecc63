use Rattle.std.proofs.Common.{ℕ, subst}
use Rattle.blend_rules.specs.Colour.{product, scaled}
use Rattle.blend_rules.specs.declared.colour.Px.{Px}
use Rattle.blend_rules.proofs.Blends.{scaled_is_pixel}
use Rattle.tile_raster.specs.Rows.{LineModel, pixel, IsPainted}
use Rattle.tile_raster.proofs.Lines.{planes_painted, painted_line, scaled_by_planes}
use Rattle.tile_raster.proofs.line.Line.scale.Goals as goal

pub invariant_of-self : goal.invariant_of-self
invariant_of-self c =
    let i = c.self.inside in
    let old : LineModel = record { blue = i.blue.items; green = i.green.items; red = i.red.items; alpha = i.alpha.items } in
    let new : LineModel = record { blue = c.scale_plane.new.plane.items; green = c.scale_plane-2.new.plane.items; red = c.scale_plane-3.new.plane.items; alpha = c.scale_plane-4.new.plane.items } in
    painted_line (λ (k : ℕ) (d : Px). scaled d c.args.share)
    (λ (k : ℕ) (d : ℕ). product d c.args.share) (λ (k : ℕ) (d : ℕ). product d c.args.share)
    (λ (k : ℕ) (d : ℕ). product d c.args.share) (λ (k : ℕ) (d : ℕ). product d c.args.share) c.args.span old new
    c.scale_plane.ensures c.scale_plane-2.ensures c.scale_plane-3.ensures c.scale_plane-4.ensures
    (λ k h. scaled_by_planes (pixel old k) c.args.share) c.self.invariant
    (λ k h. scaled_is_pixel (pixel old k) c.args.share c.ranges.share.fits (c.self.invariant.pixels k))

pub returns : goal.returns
returns c =
    let i = c.self.inside in
    let old : LineModel = record { blue = i.blue.items; green = i.green.items; red = i.red.items; alpha = i.alpha.items } in
    let new : LineModel = record { blue = c.scale_plane.new.plane.items; green = c.scale_plane-2.new.plane.items; red = c.scale_plane-3.new.plane.items; alpha = c.scale_plane-4.new.plane.items } in
    subst (λ (line : LineModel). IsPainted (λ (k : ℕ) (d : Px). scaled d c.args.share) c.args.span line new) c.self.view_is
    (planes_painted (λ (k : ℕ) (d : Px). scaled d c.args.share)
    (λ (k : ℕ) (d : ℕ). product d c.args.share) (λ (k : ℕ) (d : ℕ). product d c.args.share)
    (λ (k : ℕ) (d : ℕ). product d c.args.share) (λ (k : ℕ) (d : ℕ). product d c.args.share) c.args.span old new
    c.scale_plane.ensures c.scale_plane-2.ensures c.scale_plane-3.ensures c.scale_plane-4.ensures
    (λ k h. scaled_by_planes (pixel old k) c.args.share))
