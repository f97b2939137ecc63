use Rattle.std.proofs.Common.{ℕ, ◌<◌, ◌^◌, slice_index, subst, ap, ◌∙◌, arith}
use Rattle.blend_rules.specs.Colour.{IsPixel, product, scaled, blended}
use Rattle.blend_rules.specs.declared.colour.Px.{Px}
use Rattle.blend_rules.specs.declared.mode.Mode.TheVariants.{Normal}
use Rattle.blend_rules.proofs.Blends.{blend_is_pixel, scaled_is_pixel}
use Rattle.span_kernels.specs.Bytes.{over_byte}
use Rattle.tile_raster.specs.Rows.{LineModel, pixel, IsPainted}
use Rattle.tile_raster.proofs.Lines.{planes_painted, painted_line, over_by_planes, scaled_by_planes}
use Rattle.tile_raster.proofs.line.Line.over_masked.Goals as goal

pub invariant_of-self : goal.invariant_of-self
invariant_of-self c =
    let i = c.self.inside in
    let old : LineModel = record { blue = i.blue.items; green = i.green.items; red = i.red.items; alpha = i.alpha.items } in
    let new : LineModel = record { blue = c.masked_over_plane.new.plane.items; green = c.masked_over_plane-2.new.plane.items; red = c.masked_over_plane-3.new.plane.items; alpha = c.masked_over_plane-4.new.plane.items } in
    let byte : (k : ℕ) → slice_index c.args.mask.now k < 2 ^ 8 = λ k. omega (arith, c.type_inv.mask k) in
    let thin : (k : ℕ) → IsPixel (record { b = product c.args.colour.b (slice_index c.args.mask.now k); g = product c.args.colour.g (slice_index c.args.mask.now k); r = product c.args.colour.r (slice_index c.args.mask.now k); a = product c.args.colour.a (slice_index c.args.mask.now k) }) =
    λ k. subst IsPixel (scaled_by_planes c.args.colour (slice_index c.args.mask.now k)) (scaled_is_pixel c.args.colour (slice_index c.args.mask.now k) (byte k) c.requires.colour) in
    painted_line (λ (k : ℕ) (d : Px). blended Normal (scaled c.args.colour (slice_index c.args.mask.now k)) d)
    (λ (k : ℕ) (d : ℕ). over_byte (product c.args.colour.a (slice_index c.args.mask.now k)) (product c.args.colour.b (slice_index c.args.mask.now k)) d) (λ (k : ℕ) (d : ℕ). over_byte (product c.args.colour.a (slice_index c.args.mask.now k)) (product c.args.colour.g (slice_index c.args.mask.now k)) d)
    (λ (k : ℕ) (d : ℕ). over_byte (product c.args.colour.a (slice_index c.args.mask.now k)) (product c.args.colour.r (slice_index c.args.mask.now k)) d) (λ (k : ℕ) (d : ℕ). over_byte (product c.args.colour.a (slice_index c.args.mask.now k)) (product c.args.colour.a (slice_index c.args.mask.now k)) d) c.args.span old new
    c.masked_over_plane.ensures c.masked_over_plane-2.ensures c.masked_over_plane-3.ensures c.masked_over_plane-4.ensures
    (λ k h. ap (λ (z : Px). blended Normal z (pixel old k)) (scaled_by_planes c.args.colour (slice_index c.args.mask.now k)) ∙ over_by_planes (record { b = product c.args.colour.b (slice_index c.args.mask.now k); g = product c.args.colour.g (slice_index c.args.mask.now k); r = product c.args.colour.r (slice_index c.args.mask.now k); a = product c.args.colour.a (slice_index c.args.mask.now k) }) (pixel old k) (thin k) (c.self.invariant.pixels k)) c.self.invariant
    (λ k h. blend_is_pixel Normal (scaled c.args.colour (slice_index c.args.mask.now k)) (pixel old k) (scaled_is_pixel c.args.colour (slice_index c.args.mask.now k) (byte k) c.requires.colour).byte (c.self.invariant.pixels k).byte)

pub returns : goal.returns
returns c =
    let i = c.self.inside in
    let old : LineModel = record { blue = i.blue.items; green = i.green.items; red = i.red.items; alpha = i.alpha.items } in
    let new : LineModel = record { blue = c.masked_over_plane.new.plane.items; green = c.masked_over_plane-2.new.plane.items; red = c.masked_over_plane-3.new.plane.items; alpha = c.masked_over_plane-4.new.plane.items } in
    let byte : (k : ℕ) → slice_index c.args.mask.now k < 2 ^ 8 = λ k. omega (arith, c.type_inv.mask k) in
    let thin : (k : ℕ) → IsPixel (record { b = product c.args.colour.b (slice_index c.args.mask.now k); g = product c.args.colour.g (slice_index c.args.mask.now k); r = product c.args.colour.r (slice_index c.args.mask.now k); a = product c.args.colour.a (slice_index c.args.mask.now k) }) =
    λ k. subst IsPixel (scaled_by_planes c.args.colour (slice_index c.args.mask.now k)) (scaled_is_pixel c.args.colour (slice_index c.args.mask.now k) (byte k) c.requires.colour) in
    subst (λ (line : LineModel). IsPainted (λ (k : ℕ) (d : Px). blended Normal (scaled c.args.colour (slice_index c.args.mask.now k)) d) c.args.span line new) c.self.view_is
    (planes_painted (λ (k : ℕ) (d : Px). blended Normal (scaled c.args.colour (slice_index c.args.mask.now k)) d)
    (λ (k : ℕ) (d : ℕ). over_byte (product c.args.colour.a (slice_index c.args.mask.now k)) (product c.args.colour.b (slice_index c.args.mask.now k)) d) (λ (k : ℕ) (d : ℕ). over_byte (product c.args.colour.a (slice_index c.args.mask.now k)) (product c.args.colour.g (slice_index c.args.mask.now k)) d)
    (λ (k : ℕ) (d : ℕ). over_byte (product c.args.colour.a (slice_index c.args.mask.now k)) (product c.args.colour.r (slice_index c.args.mask.now k)) d) (λ (k : ℕ) (d : ℕ). over_byte (product c.args.colour.a (slice_index c.args.mask.now k)) (product c.args.colour.a (slice_index c.args.mask.now k)) d) c.args.span old new
    c.masked_over_plane.ensures c.masked_over_plane-2.ensures c.masked_over_plane-3.ensures c.masked_over_plane-4.ensures
    (λ k h. ap (λ (z : Px). blended Normal z (pixel old k)) (scaled_by_planes c.args.colour (slice_index c.args.mask.now k)) ∙ over_by_planes (record { b = product c.args.colour.b (slice_index c.args.mask.now k); g = product c.args.colour.g (slice_index c.args.mask.now k); r = product c.args.colour.r (slice_index c.args.mask.now k); a = product c.args.colour.a (slice_index c.args.mask.now k) }) (pixel old k) (thin k) (c.self.invariant.pixels k)))
