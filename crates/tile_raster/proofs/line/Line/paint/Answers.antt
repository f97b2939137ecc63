use Rattle.std.proofs.Common.{ℕ, subst, refl}
use Rattle.blend_rules.specs.declared.colour.Px.{Px}
use Rattle.primitives.specs.Colours.{primitive_colour}
use Rattle.primitives.proofs.Colours.{colour_is_pixel}
use Rattle.tile_raster.specs.Rows.{LineModel, IsPainted}
use Rattle.tile_raster.specs.Spans.{x_of}
use Rattle.tile_raster.proofs.Lines.{planes_painted, painted_line}
use Rattle.tile_raster.proofs.line.Line.paint.Goals as goal

pub invariant_of-self : goal.invariant_of-self
invariant_of-self c =
    let i = c.self.inside in
    let old : LineModel = record { blue = i.blue.items; green = i.green.items; red = i.red.items; alpha = i.alpha.items } in
    let new : LineModel = record { blue = c.colour_plane.new.plane.items; green = c.colour_plane-2.new.plane.items; red = c.colour_plane-3.new.plane.items; alpha = c.colour_plane-4.new.plane.items } in
    painted_line (λ (k : ℕ) (d : Px). primitive_colour c.args.store.now c.args.primitive.now (x_of c.args.first k) c.args.first.y)
    (λ (k : ℕ) (d : ℕ). (primitive_colour c.args.store.now c.args.primitive.now (x_of c.args.first k) c.args.first.y).b) (λ (k : ℕ) (d : ℕ). (primitive_colour c.args.store.now c.args.primitive.now (x_of c.args.first k) c.args.first.y).g)
    (λ (k : ℕ) (d : ℕ). (primitive_colour c.args.store.now c.args.primitive.now (x_of c.args.first k) c.args.first.y).r) (λ (k : ℕ) (d : ℕ). (primitive_colour c.args.store.now c.args.primitive.now (x_of c.args.first k) c.args.first.y).a) c.args.span old new
    c.colour_plane.ensures c.colour_plane-2.ensures c.colour_plane-3.ensures c.colour_plane-4.ensures
    (λ k h. refl) c.self.invariant
    (λ k h. colour_is_pixel c.args.store.now c.args.primitive.now (x_of c.args.first k) c.args.first.y c.know_store.ensures c.kind-kind.ensures.primitive)

pub returns : goal.returns
returns c =
    let i = c.self.inside in
    let old : LineModel = record { blue = i.blue.items; green = i.green.items; red = i.red.items; alpha = i.alpha.items } in
    let new : LineModel = record { blue = c.colour_plane.new.plane.items; green = c.colour_plane-2.new.plane.items; red = c.colour_plane-3.new.plane.items; alpha = c.colour_plane-4.new.plane.items } in
    subst (λ (line : LineModel). IsPainted (λ (k : ℕ) (d : Px). primitive_colour c.args.store.now c.args.primitive.now (x_of c.args.first k) c.args.first.y) c.args.span line new) c.self.view_is
    (planes_painted (λ (k : ℕ) (d : Px). primitive_colour c.args.store.now c.args.primitive.now (x_of c.args.first k) c.args.first.y)
    (λ (k : ℕ) (d : ℕ). (primitive_colour c.args.store.now c.args.primitive.now (x_of c.args.first k) c.args.first.y).b) (λ (k : ℕ) (d : ℕ). (primitive_colour c.args.store.now c.args.primitive.now (x_of c.args.first k) c.args.first.y).g)
    (λ (k : ℕ) (d : ℕ). (primitive_colour c.args.store.now c.args.primitive.now (x_of c.args.first k) c.args.first.y).r) (λ (k : ℕ) (d : ℕ). (primitive_colour c.args.store.now c.args.primitive.now (x_of c.args.first k) c.args.first.y).a) c.args.span old new
    c.colour_plane.ensures c.colour_plane-2.ensures c.colour_plane-3.ensures c.colour_plane-4.ensures
    (λ k h. refl))
