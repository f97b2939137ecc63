use Rattle.std.proofs.Common.{◌≡◌, ℕ, ◌+◌, ◌-◌, length, take, drop, slice_index, ◌++◌, sym, ap, subst, ◌∙◌, arith}
use Rattle.blend_rules.specs.Colour.{blended_channel}
use Rattle.tile_raster.specs.Rows.{IsPlanePainted}
use Rattle.tile_raster.proofs.Planes.{part_at, painted_part}
use Rattle.tile_raster.proofs.plane.blend_plane.Goals as goal

pub returns : goal.returns
returns c =
    let v = c.args.plane.now in
    let s = c.args.span in
    let new = c.blend_part.new.part in
    let at = c.from.result in
    let f = λ (k d : ℕ). blended_channel c.args.mode (slice_index c.args.sa.now k) (slice_index c.args.da.now k) (slice_index c.args.s.now k) d in
    let low : at ≡ s.from = c.from.ensures in
    let high : c.from-2.result ≡ s.to = c.from-2.ensures in
    let len : length new ≡ s.to - s.from = omega (arith, c.blend_part.auto.part, c.slice_mut-part.ensures.len, low, high) in
    let painted = painted_part f s v.items new at low (record { order = c.requires.span.order; inside = c.requires.span.inside }) len
    (λ j h. c.blend_part.ensures j h ∙ ap (f (s.from + j)) (part_at v.items c.slice_mut-part.result.now at (c.from-2.result - at) j c.slice_mut-part.ensures.value (omega (arith, h, len, low, high)) ∙ ap (λ (i : ℕ). slice_index v.items i) (omega (arith, low)))) in
    subst (λ (n : ℕ). IsPlanePainted f s v.items (take n ((take at v.items ++ (new ++ drop (length new) (drop at v.items))) ++ drop (length (take at v.items ++ (new ++ drop (length new) (drop at v.items)))) v.items))) (sym v.ok.0) painted
