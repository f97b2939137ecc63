use Rattle.std.proofs.Common.{ℕ, subst, refl}
use Rattle.blend_rules.specs.declared.colour.Px.{Px}
use Rattle.tile_raster.specs.Rows.{LineModel, IsPainted}
use Rattle.tile_raster.proofs.Lines.{planes_painted, painted_line}
use Rattle.tile_raster.proofs.line.Line.fill.Goals as goal

pub invariant_of-self : goal.invariant_of-self
invariant_of-self c =
    let i = c.self.inside in
    let old : LineModel = record { blue = i.blue.items; green = i.green.items; red = i.red.items; alpha = i.alpha.items } in
    let new : LineModel = record { blue = c.fill_plane.new.plane.items; green = c.fill_plane-2.new.plane.items; red = c.fill_plane-3.new.plane.items; alpha = c.fill_plane-4.new.plane.items } in
    painted_line (λ (k : ℕ) (d : Px). c.args.colour)
    (λ (k : ℕ) (d : ℕ). c.args.colour.b) (λ (k : ℕ) (d : ℕ). c.args.colour.g)
    (λ (k : ℕ) (d : ℕ). c.args.colour.r) (λ (k : ℕ) (d : ℕ). c.args.colour.a) c.args.span old new
    c.fill_plane.ensures c.fill_plane-2.ensures c.fill_plane-3.ensures c.fill_plane-4.ensures
    (λ k h. refl) c.self.invariant
    (λ k h. c.requires.colour)

pub returns : goal.returns
returns c =
    let i = c.self.inside in
    let old : LineModel = record { blue = i.blue.items; green = i.green.items; red = i.red.items; alpha = i.alpha.items } in
    let new : LineModel = record { blue = c.fill_plane.new.plane.items; green = c.fill_plane-2.new.plane.items; red = c.fill_plane-3.new.plane.items; alpha = c.fill_plane-4.new.plane.items } in
    subst (λ (line : LineModel). IsPainted (λ (k : ℕ) (d : Px). c.args.colour) c.args.span line new) c.self.view_is
    (planes_painted (λ (k : ℕ) (d : Px). c.args.colour)
    (λ (k : ℕ) (d : ℕ). c.args.colour.b) (λ (k : ℕ) (d : ℕ). c.args.colour.g)
    (λ (k : ℕ) (d : ℕ). c.args.colour.r) (λ (k : ℕ) (d : ℕ). c.args.colour.a) c.args.span old new
    c.fill_plane.ensures c.fill_plane-2.ensures c.fill_plane-3.ensures c.fill_plane-4.ensures
    (λ k h. refl))
