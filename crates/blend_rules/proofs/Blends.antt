-- The laws of blends and of scaled colours.
use Rattle.std.proofs.Common.{◌≡◌, ℕ, ap, ◌∙◌, arith}
use Rattle.std.proofs.Math.Nat.{min-le_left}
use Rattle.blend_rules.specs.declared.colour.Px.{Px}
use Rattle.blend_rules.specs.Colour.{HasBytes, IsPixel, clear, scaled, blended, source_over, alpha_sum, mode_value}
use Rattle.blend_rules.specs.Laws.{ScaledByFull, ScaledByNone, ScaledIsPremultiplied, ScaledIsPixel, BlendIsPremultiplied, BlendIsPixel, ClearSourceLeaves, ClearBackdropShows, OpaqueCovers, NormalNeedsNoLimit}
use Rattle.blend_rules.proofs.Products.{product-full_right, product-zero_right, product-zero_left, product-le_left, product-mono}
use Rattle.blend_rules.proofs.Channels.{alpha_sum-clear_source, alpha_sum-clear_backdrop, blended_channel-clear_source, blended_channel-clear_backdrop, blended_channel-opaque, blended_channel-normal, alpha_sum-rest, alpha_sum-opaque, alpha_sum_byte}

-- colours of equal bytes are equal
pub same_bytes : (p q : Px) → p.b ≡ q.b → p.g ≡ q.g → p.r ≡ q.r → p.a ≡ q.a → p ≡ q
same_bytes p q eb eg er ea = ap (λ (x : ℕ). let y : Px = record { b = x; g = p.g; r = p.r; a = p.a } in y) eb
    ∙ ap (λ (x : ℕ). let y : Px = record { b = q.b; g = x; r = p.r; a = p.a } in y) eg
    ∙ ap (λ (x : ℕ). let y : Px = record { b = q.b; g = q.g; r = x; a = p.a } in y) er
    ∙ ap (λ (x : ℕ). let y : Px = record { b = q.b; g = q.g; r = q.r; a = x } in y) ea

pub blend_is_premultiplied : BlendIsPremultiplied
unfolding blended
blend_is_premultiplied m s d = record {
  blue = min-le_left (alpha_sum s.a d.a) (mode_value m s.a d.a s.b d.b);
  green = min-le_left (alpha_sum s.a d.a) (mode_value m s.a d.a s.g d.g);
  red = min-le_left (alpha_sum s.a d.a) (mode_value m s.a d.a s.r d.r);
}

pub clear_source_leaves : ClearSourceLeaves
unfolding blended
clear_source_leaves m d h k = same_bytes _ d
    (blended_channel-clear_source m d.a d.b h.blue k) (blended_channel-clear_source m d.a d.g h.green k)
    (blended_channel-clear_source m d.a d.r h.red k) (alpha_sum-clear_source d.a k)

pub clear_backdrop_shows : ClearBackdropShows
unfolding blended
clear_backdrop_shows m s h k = same_bytes _ s
    (blended_channel-clear_backdrop m s.a s.b h.blue k) (blended_channel-clear_backdrop m s.a s.g h.green k)
    (blended_channel-clear_backdrop m s.a s.r h.red k) (alpha_sum-clear_backdrop s.a)

pub normal_needs_no_limit : NormalNeedsNoLimit
unfolding blended source_over
normal_needs_no_limit s d p q k l = same_bytes _ _
    (blended_channel-normal s.a d.a s.b d.b p.blue q.blue k) (blended_channel-normal s.a d.a s.g d.g p.green q.green k)
    (blended_channel-normal s.a d.a s.r d.r p.red q.red k) (alpha_sum-rest s.a d.a k)

pub opaque_covers : OpaqueCovers
unfolding blended
opaque_covers s d p e = same_bytes _ s
    (blended_channel-opaque s.a d.a s.b d.b e p.blue) (blended_channel-opaque s.a d.a s.g d.g e p.green)
    (blended_channel-opaque s.a d.a s.r d.r e p.red) (alpha_sum-opaque s.a d.a e)

pub blend_is_pixel : BlendIsPixel
unfolding blended
blend_is_pixel m s d h k = record { premultiplied = blend_is_premultiplied m s d; byte = alpha_sum_byte s.a d.a h k }

-- ---- scaled colours

pub scaled_by_full : ScaledByFull
unfolding scaled
scaled_by_full p = same_bytes _ p (product-full_right p.b) (product-full_right p.g) (product-full_right p.r) (product-full_right p.a)

pub scaled_by_none : ScaledByNone
unfolding scaled
scaled_by_none p h =
    let q = h.premultiplied in
    same_bytes _ clear (product-zero_right p.b (omega (arith, q.blue, h.byte))) (product-zero_right p.g (omega (arith, q.green, h.byte))) (product-zero_right p.r (omega (arith, q.red, h.byte))) (product-zero_right p.a h.byte)

pub scaled_clear : (c : ℕ) → scaled clear c ≡ clear
unfolding scaled
scaled_clear c = same_bytes _ clear (product-zero_left c) (product-zero_left c) (product-zero_left c) (product-zero_left c)

pub scaled_is_premultiplied : ScaledIsPremultiplied
unfolding scaled
scaled_is_premultiplied p c h = record {
  blue = product-mono p.b p.a c h.blue;
  green = product-mono p.g p.a c h.green;
  red = product-mono p.r p.a c h.red;
}

pub scaled_is_pixel : ScaledIsPixel
unfolding scaled
scaled_is_pixel p c k h = record { premultiplied = scaled_is_premultiplied p c h.premultiplied; byte = omega (arith, h.byte, product-le_left p.a c k) }

-- ---- pixels

pub clear_is_pixel : IsPixel clear
clear_is_pixel = record { premultiplied = record { blue = omega arith; green = omega arith; red = omega arith }; byte = omega arith }

pub pixel_has_bytes : (p : Px) → IsPixel p → HasBytes p
pixel_has_bytes p h =
    let q = h.premultiplied in
    record { blue = omega (arith, q.blue, h.byte); green = omega (arith, q.green, h.byte); red = omega (arith, q.red, h.byte); alpha = h.byte }
