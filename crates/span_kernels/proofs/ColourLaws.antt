-- The kernels' bytes are the colour rules', plane by plane.
use Rattle.std.proofs.Common.{ℕ, ◌∷◌, [], refl, ap, ap₂, sym, ◌∙◌}
use Rattle.blend_rules.specs.declared.plane.Plane.TheVariants.{B, G, R, A}
use Rattle.blend_rules.specs.Colour.{scaled, blended, source_over, colour_bytes}
use Rattle.blend_rules.specs.Planes.{channel}
use Rattle.blend_rules.proofs.Blends.{normal_needs_no_limit, scaled_is_pixel}
use Rattle.span_kernels.specs.Bytes.{over_byte}
use Rattle.span_kernels.specs.Laws.{OverByPlane, ScaledByPlane, MaskedByPlane, BlendedByPlane, BlendedAlpha, WovenPixels}
use Rattle.span_kernels.proofs.Bytes.{alpha_is}

pub over_by_plane : OverByPlane
unfolding source_over
over_by_plane B s d = refl
over_by_plane G s d = refl
over_by_plane R s d = refl
over_by_plane A s d = refl

pub scaled_by_plane : ScaledByPlane
unfolding scaled
scaled_by_plane B s c = refl
scaled_by_plane G s c = refl
scaled_by_plane R s c = refl
scaled_by_plane A s c = refl

pub masked_by_plane : MaskedByPlane
masked_by_plane p s d c byte source backdrop =
    let k = scaled_is_pixel s c byte source in
    ap (channel p) (normal_needs_no_limit (scaled s c) d k.premultiplied backdrop.premultiplied k.byte backdrop.byte)
    ∙ over_by_plane p (scaled s c) d
    ∙ ap₂ (λ (a x : ℕ). over_byte a x (channel p d)) (scaled_by_plane A s c) (scaled_by_plane p s c)

pub blended_by_plane : BlendedByPlane
unfolding blended
blended_by_plane B m s d other = refl
blended_by_plane G m s d other = refl
blended_by_plane R m s d other = refl
blended_by_plane A m s d other = absurd (other refl)

pub blended_alpha : BlendedAlpha
unfolding blended
blended_alpha m s d byte = sym (alpha_is s.a d.a (record { fits = byte }))

pub woven_pixels : WovenPixels
unfolding colour_bytes
woven_pixels [] = refl
woven_pixels (p ∷ row) = ap (λ bytes. p.b ∷ (p.g ∷ (p.r ∷ (p.a ∷ bytes)))) (woven_pixels row)
