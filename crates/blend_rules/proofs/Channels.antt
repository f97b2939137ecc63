-- Laws of one channel's blend.
use Rattle.std.proofs.Common.{◌≡◌, ℕ, ◌+◌, ◌-◌, ◌*◌, ◌≤◌, ◌<◌, ◌^◌, Bool, true, false, cond, min, arith, leb, ap, ◌∙◌}
use Rattle.blend_rules.specs.declared.mode.Mode.{Mode}
use Rattle.blend_rules.specs.declared.mode.Mode.TheVariants.{Normal, Multiply, Screen, Overlay, Darken, Lighten, HardLight, Difference, Exclusion}
use Rattle.blend_rules.specs.Colour.{product, alpha_sum, blended_channel}
use Rattle.blend_rules.proofs.Products.{product-full_right, product-full_left, product-zero_right, product-zero_left, product-le_left, rest-mono}

-- a choice between two values of which each is w
min_of_either : (b : Bool) (a x y w : ℕ) → min a x ≡ w → min a y ≡ w → min a (cond b x y) ≡ w
min_of_either true a x y w p q = p
min_of_either false a x y w p q = q

pub alpha_sum-clear_source : (da : ℕ) → da < 2 ^ 8 → alpha_sum 0 da ≡ da
alpha_sum-clear_source da h = omega (arith, product-zero_right da h)

pub alpha_sum-clear_backdrop : (sa : ℕ) → alpha_sum sa 0 ≡ sa
alpha_sum-clear_backdrop sa = omega (arith, product-zero_left sa)

pub blended_channel-clear_source : (m : Mode) (da d : ℕ) → d ≤ da → da < 2 ^ 8 → blended_channel m 0 da 0 d ≡ d
blended_channel-clear_source m da d h k =
    at_mode m (product-zero_right da k) (product-zero_right d (omega arith)) (product-zero_left da) (product-zero_left d) (product-zero_right (da - d) (omega arith))
  where
    at_mode : (m : Mode) → product da 0 ≡ 0 → product d 0 ≡ 0 → product 0 da ≡ 0 → product 0 d ≡ 0 → product (da - d) 0 ≡ 0 → blended_channel m 0 da 0 d ≡ d
    at_mode Normal e1 e2 e3 e4 e5 = omega arith
    at_mode Multiply e1 e2 e3 e4 e5 = omega arith
    at_mode Screen e1 e2 e3 e4 e5 = omega arith
    at_mode Overlay e1 e2 e3 e4 e5 = min_of_either (leb (2 * d) da) _ _ _ d (omega arith) (omega arith)
    at_mode Darken e1 e2 e3 e4 e5 = omega arith
    at_mode Lighten e1 e2 e3 e4 e5 = omega arith
    at_mode HardLight e1 e2 e3 e4 e5 = omega arith
    at_mode Difference e1 e2 e3 e4 e5 = omega arith
    at_mode Exclusion e1 e2 e3 e4 e5 = omega arith

pub blended_channel-clear_backdrop : (m : Mode) (sa s : ℕ) → s ≤ sa → sa < 2 ^ 8 → blended_channel m sa 0 s 0 ≡ s
blended_channel-clear_backdrop m sa s h k =
    at_mode m (product-zero_right sa k) (product-zero_right s (omega arith)) (product-zero_left sa) (product-zero_left s) (product-zero_left (sa - s))
  where
    at_mode : (m : Mode) → product sa 0 ≡ 0 → product s 0 ≡ 0 → product 0 sa ≡ 0 → product 0 s ≡ 0 → product 0 (sa - s) ≡ 0 → blended_channel m sa 0 s 0 ≡ s
    at_mode Normal e1 e2 e3 e4 e5 = omega arith
    at_mode Multiply e1 e2 e3 e4 e5 = omega arith
    at_mode Screen e1 e2 e3 e4 e5 = omega arith
    at_mode Overlay e1 e2 e3 e4 e5 = omega arith
    at_mode Darken e1 e2 e3 e4 e5 = omega arith
    at_mode Lighten e1 e2 e3 e4 e5 = omega arith
    at_mode HardLight e1 e2 e3 e4 e5 = min_of_either (leb (2 * s) sa) _ _ _ s (omega arith) (omega arith)
    at_mode Difference e1 e2 e3 e4 e5 = omega arith
    at_mode Exclusion e1 e2 e3 e4 e5 = omega arith

pub alpha_sum-opaque : (sa da : ℕ) → sa ≡ 255 → alpha_sum sa da ≡ sa
alpha_sum-opaque sa da e = let all : product da sa ≡ da = ap (product da) e ∙ product-full_right da in omega arith

pub blended_channel-opaque : (sa da s d : ℕ) → sa ≡ 255 → s ≤ sa → blended_channel Normal sa da s d ≡ s
blended_channel-opaque sa da s d e h =
    let all : product da sa ≡ da = ap (product da) e ∙ product-full_right da in
    let same : product d sa ≡ d = ap (product d) e ∙ product-full_right d in omega arith

-- in mode Normal the sum stays within the alpha of both
pub blended_channel-normal : (sa da s d : ℕ) → s ≤ sa → d ≤ da → sa < 2 ^ 8 → blended_channel Normal sa da s d ≡ s + (d - product d sa)
blended_channel-normal sa da s d p q k = omega (arith, rest-mono d da sa q k, product-le_left d sa k, product-le_left da sa k)

pub alpha_sum-rest : (sa da : ℕ) → sa < 2 ^ 8 → alpha_sum sa da ≡ sa + (da - product da sa)
alpha_sum-rest sa da k = omega (arith, product-le_left da sa k)

-- a source byte and what its alpha leaves fit a byte
pub over_fits : (sa s d : ℕ) → s ≤ sa → sa < 2 ^ 8 → d < 2 ^ 8 → s + (d - product d sa) < 2 ^ 8
over_fits sa s d h k l = let rest : d - product d sa ≤ 255 - product 255 sa = rest-mono d 255 sa (omega arith) k in omega (arith, product-full_left sa k)

pub alpha_sum_byte : (sa da : ℕ) → sa < 2 ^ 8 → da < 2 ^ 8 → alpha_sum sa da < 2 ^ 8
alpha_sum_byte sa da h k = let rest : da - product da sa ≤ 255 - product 255 sa = rest-mono da 255 sa (omega arith) h in omega (arith, product-full_left sa h, product-le_left da sa h)
