-- Arithmetic of one byte.
use Rattle.std.proofs.Common.{ℕ, ◌≡◌, ◌≤◌, ◌+◌, ◌-◌, ◌*◌, ◌/◌, ◌%◌, Fits, w8, w16, arith, ap, ◌<◌, nat_lt, Bool, true, false, cond, min, max, refl, rules, nat_le}
use Rattle.std.proofs.Math.Nat.{mul-le-mul_left, mul-le-mul_right, mul-add, add-mul}
use Rattle.blend_rules.specs.Colour.{product, alpha_sum, blended_channel}
use Rattle.blend_rules.specs.declared.mode.Mode.TheVariants.{Normal}
use Rattle.span_kernels.specs.Bytes.{over_byte}

pub product_le : (x y : ℕ) → Fits w8 y → product x y ≤ x
unfolding product
product_le x y h = let m : x * y ≤ x * 255 = mul-le-mul_left x (omega arith) in omega arith

-- what is left of d under alpha sa is at most 255 - sa
left_le : (d sa : ℕ) → d ≤ 255 → sa ≤ 255 → d + sa ≤ 255 + product d sa
unfolding product
left_le d sa hd ha =
    let b : ℕ = 255 - sa in
    let e : d * (sa + b) ≡ d * sa + d * b = mul-add d sa b in
    let w : d * (sa + b) ≡ d * 255 = ap (λ n. d * n) (omega arith) in
    let m : d * b ≤ 255 * b = mul-le-mul_right b hd in
    omega arith

pub over_fits : (sa s d : ℕ) → s ≤ sa → Fits w8 d → Fits w8 sa → over_byte sa s d ≤ 255
over_fits sa s d h hd ha = omega (arith, left_le d sa (omega arith) (omega arith), product_le d sa ha)

-- the product in sixteen bits
pub product_wide : (x y : ℕ) → Fits w8 x → Fits w8 y → x * ((y + 1) % 65536) % 65536 / 256 ≡ product x y
unfolding product
product_wide x y hx hy =
    let low : (y + 1) % 65536 ≡ y + 1 = omega arith in
    let e : x * (y + 1) ≡ x * y + x * 1 = mul-add x y 1 in
    let m : x * y ≤ x * 255 = mul-le-mul_left x (omega arith) in
    let w : x * ((y + 1) % 65536) ≡ x * (y + 1) = ap (λ n. x * n) low in
    omega arith

pub product_wide_fits : (x y : ℕ) → Fits w8 x → Fits w8 y → Fits w8 (x * ((y + 1) % 65536) % 65536 / 256)
product_wide_fits x y hx hy = omega arith

-- a source over a backdrop in wrapping bytes
pub over_wrapped : (sa s d : ℕ) → s ≤ sa → Fits w8 s → Fits w8 d → Fits w8 sa → (s + (d + (256 - product d sa)) % 256) % 256 ≡ over_byte sa s d
over_wrapped sa s d h hs hd ha =
    let low = product_le d sa ha in
    let most = over_fits sa s d h hd ha in
    let sub : (d + (256 - product d sa)) % 256 ≡ d - product d sa = omega arith in
    omega arith

pub excess_wrapped : (x y : ℕ) → y ≤ x → Fits w8 x → (x + (256 - y)) % 256 ≡ x - y
excess_wrapped x y le hx = omega arith

pub sum_wide : (x y : ℕ) → Fits w8 x → Fits w8 y → (x + y) % 65536 ≡ x + y
sum_wide x y hx hy = omega arith

lt_from : (x y : ℕ) → nat_lt x y ≡ true → x < y
lt_from x y is = search rules

le_from : (x y : ℕ) → nat_lt x y ≡ false → y ≤ x
le_from x y is = search rules

-- the tests that choose the lesser and the greater
lesser_by : (x y : ℕ) (t : Bool) → nat_lt x y ≡ t → cond t x y ≡ min x y
lesser_by x y true is = let h = lt_from x y is in omega arith
lesser_by x y false is = let h = le_from x y is in omega arith

pub lesser_is : (x y : ℕ) → cond (nat_lt x y) x y ≡ min x y
lesser_is x y = lesser_by x y (nat_lt x y) refl

greater_by : (x y : ℕ) (t : Bool) → nat_lt x y ≡ t → cond t y x ≡ max x y
greater_by x y true is = let h = lt_from x y is in omega arith
greater_by x y false is = let h = le_from x y is in omega arith

pub greater_is : (x y : ℕ) → cond (nat_lt x y) y x ≡ max x y
greater_is x y = greater_by x y (nat_lt x y) refl

-- a difference of sixteen bits that ends at 0
pub rest_wide : (x y : ℕ) → Fits w16 x → Fits w16 y → (cond (nat_lt x y) y x + (65536 - y)) % 65536 ≡ x - y
rest_wide x y hx hy = let g = greater_is x y in omega arith

pub limited_fits : (limit x : ℕ) → Fits w8 limit → Fits w8 (cond (nat_lt x limit) x limit)
limited_fits limit x h = let l = lesser_is x limit in omega arith

pub limited_is : (limit x : ℕ) → cond (nat_lt x limit) x limit ≡ min limit x
limited_is limit x = let l = lesser_is x limit in omega arith

-- ---- modes

pub alpha_is : (sa da : ℕ) → Fits w8 sa → over_byte sa sa da ≡ alpha_sum sa da
alpha_is sa da h = let low = product_le da sa h in omega arith

-- what an alpha leaves does not fall as the byte rises
product_rises : (d da sa : ℕ) → d ≤ da → Fits w8 sa → product da sa ≤ product d sa + (da - d)
unfolding product
product_rises d da sa le h =
    let e : ℕ = da - d in
    let whole : (d + e) * sa ≡ da * sa = ap (λ n. n * sa) (omega arith) in
    let parts : (d + e) * sa ≡ d * sa + e * sa = add-mul d e sa in
    let m : e * sa ≤ e * 255 = mul-le-mul_left e (omega arith) in
    omega arith

pub normal_is : (sa da s d : ℕ) → s ≤ sa → d ≤ da → Fits w8 sa → over_byte sa s d ≡ blended_channel Normal sa da s d
normal_is sa da s d hs hd h =
    let r = product_rises d da sa hd h in let l = product_le d sa h in let m = product_le da sa h in omega arith

-- the test that a byte is at most half of another
half_by : (x xa : ℕ) (t u : Bool) → x ≤ xa → nat_le x (xa - x) ≡ t → nat_le (2 * x) xa ≡ u → t ≡ u
half_by x xa true true le a b = refl
half_by x xa false false le a b = refl
half_by x xa true false le a b = absurd (search rules)
half_by x xa false true le a b = absurd (search rules)

pub half_is : (x xa : ℕ) → x ≤ xa → nat_le x (xa - x) ≡ nat_le (2 * x) xa
half_is x xa le = half_by x xa (nat_le x (xa - x)) (nat_le (2 * x) xa) le refl refl

-- the sums of dark and of light, chosen term by term
pub contrast_is : (t : Bool) (s d both alphas first second rest : ℕ) → s + d + (cond t both alphas + cond t both 0) - (first + second + (cond t 0 rest + cond t 0 rest)) ≡ cond t (s + d + 2 * both - (first + second)) (s + d + alphas - (first + second + 2 * rest))
contrast_is true s d both alphas first second rest = omega arith
contrast_is false s d both alphas first second rest = omega arith
