use Rattle.std.proofs.Common.{◌≡◌, ℕ, ◌+◌, ◌-◌, ℤ, pos, ◌+ℤ◌, length, take, drop, ◌++◌, sym, ap₂, subst, ◌∙◌, arith, to_z, of_z, w32}
use Rattle.std.proofs.lemmas.Int.{ints}
use Rattle.blend_rules.specs.Planes.{channel}
use Rattle.primitives.specs.Colours.{primitive_colour}
use Rattle.tile_raster.specs.Rows.{IsPlanePainted}
use Rattle.tile_raster.specs.Spans.{x_of}
use Rattle.tile_raster.proofs.Planes.{painted_part}
use Rattle.tile_raster.proofs.plane.colour_plane.Goals as goal

pub returns : goal.returns
returns c =
    let v = c.args.plane.now in
    let s = c.args.span in
    let first = c.args.first in
    let store = c.args.store.now in
    let primitive = c.args.primitive.now in
    let new = c.colour_row.new.out in
    let at = c.from.result in
    let f = λ (k d : ℕ). channel c.args.p (primitive_colour store primitive (first.x +ℤ pos k) first.y) in
    let low : at ≡ s.from = c.from.ensures in
    let high : c.from-2.result ≡ s.to = c.from-2.ensures in
    let len : length new ≡ s.to - s.from = omega (arith, c.colour_row.auto.out, c.slice_mut-part.ensures.len, low, high) in
    let ey : to_z w32 (of_z w32 first.y) ≡ first.y = omega (arith, ints, c.requires.first.top, c.requires.first.bottom) in
    let ex : (j : ℕ) → to_z w32 (of_z w32 c.x_at-x.result) +ℤ pos j ≡ x_of first (s.from + j) = λ j. omega (arith, ints, c.x_at-x.ensures, c.x_at-x.type_inv) in
    let painted = painted_part f s v.items new at low (record { order = c.requires.span.order; inside = c.requires.span.inside }) len
    (λ j h. c.colour_row.ensures j h ∙ ap₂ (λ (x y : ℤ). channel c.args.p (primitive_colour store primitive x y)) (ex j) ey) in
    subst (λ (n : ℕ). IsPlanePainted f s v.items (take n ((take at v.items ++ (new ++ drop (length new) (drop at v.items))) ++ drop (length (take at v.items ++ (new ++ drop (length new) (drop at v.items)))) v.items))) (sym v.ok.0) painted
