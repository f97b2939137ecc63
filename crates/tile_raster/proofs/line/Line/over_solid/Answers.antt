use Rattle.std.proofs.Common.{ℕ, subst}
use Rattle.blend_rules.specs.Colour.{blended}
use Rattle.blend_rules.specs.declared.colour.Px.{Px}
use Rattle.blend_rules.specs.declared.mode.Mode.TheVariants.{Normal}
use Rattle.blend_rules.proofs.Blends.{blend_is_pixel}
use Rattle.span_kernels.specs.Bytes.{over_byte}
use Rattle.tile_raster.specs.Rows.{LineModel, pixel, IsPainted}
use Rattle.tile_raster.proofs.Lines.{planes_painted, painted_line, over_by_planes}
use Rattle.tile_raster.proofs.line.Line.over_solid.Goals as goal

pub invariant_of-self : goal.invariant_of-self
invariant_of-self c =
    let i = c.self.inside in
    let old : LineModel = record { blue = i.blue.items; green = i.green.items; red = i.red.items; alpha = i.alpha.items } in
    let new : LineModel = record { blue = c.solid_over_plane.new.plane.items; green = c.solid_over_plane-2.new.plane.items; red = c.solid_over_plane-3.new.plane.items; alpha = c.solid_over_plane-4.new.plane.items } in
    painted_line (λ (k : ℕ) (d : Px). blended Normal c.args.colour d)
    (λ (k : ℕ) (d : ℕ). over_byte c.args.colour.a c.args.colour.b d) (λ (k : ℕ) (d : ℕ). over_byte c.args.colour.a c.args.colour.g d)
    (λ (k : ℕ) (d : ℕ). over_byte c.args.colour.a c.args.colour.r d) (λ (k : ℕ) (d : ℕ). over_byte c.args.colour.a c.args.colour.a d) c.args.span old new
    c.solid_over_plane.ensures c.solid_over_plane-2.ensures c.solid_over_plane-3.ensures c.solid_over_plane-4.ensures
    (λ k h. over_by_planes c.args.colour (pixel old k) c.requires.colour (c.self.invariant.pixels k)) c.self.invariant
    (λ k h. blend_is_pixel Normal c.args.colour (pixel old k) c.requires.colour.byte (c.self.invariant.pixels k).byte)

pub returns : goal.returns
returns c =
    let i = c.self.inside in
    let old : LineModel = record { blue = i.blue.items; green = i.green.items; red = i.red.items; alpha = i.alpha.items } in
    let new : LineModel = record { blue = c.solid_over_plane.new.plane.items; green = c.solid_over_plane-2.new.plane.items; red = c.solid_over_plane-3.new.plane.items; alpha = c.solid_over_plane-4.new.plane.items } in
    subst (λ (line : LineModel). IsPainted (λ (k : ℕ) (d : Px). blended Normal c.args.colour d) c.args.span line new) c.self.view_is
    (planes_painted (λ (k : ℕ) (d : Px). blended Normal c.args.colour d)
    (λ (k : ℕ) (d : ℕ). over_byte c.args.colour.a c.args.colour.b d) (λ (k : ℕ) (d : ℕ). over_byte c.args.colour.a c.args.colour.g d)
    (λ (k : ℕ) (d : ℕ). over_byte c.args.colour.a c.args.colour.r d) (λ (k : ℕ) (d : ℕ). over_byte c.args.colour.a c.args.colour.a d) c.args.span old new
    c.solid_over_plane.ensures c.solid_over_plane-2.ensures c.solid_over_plane-3.ensures c.solid_over_plane-4.ensures
    (λ k h. over_by_planes c.args.colour (pixel old k) c.requires.colour (c.self.invariant.pixels k)))
