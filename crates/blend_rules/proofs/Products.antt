-- Laws of the product of two bytes.
use Rattle.std.proofs.Common.{◌≡◌, ℕ, ◌+◌, ◌-◌, ◌*◌, ◌/◌, ◌≤◌, ◌<◌, ◌^◌, ap, arith}
use Rattle.std.proofs.Math.Nat.{mul-le-mul_left, mul_comm}
use Rattle.blend_rules.specs.Colour.{product}

pub product-full_right : (x : ℕ) → product x 255 ≡ x
unfolding product
product-full_right x = omega arith

pub product-full_left : (y : ℕ) → y < 2 ^ 8 → product 255 y ≡ y
unfolding product
product-full_left y h = omega arith

pub product-zero_right : (x : ℕ) → x < 2 ^ 8 → product x 0 ≡ 0
unfolding product
product-zero_right x h = omega arith

pub product-zero_left : (y : ℕ) → product 0 y ≡ 0
unfolding product
product-zero_left y = omega arith

pub product-le_left : (x y : ℕ) → y < 2 ^ 8 → product x y ≤ x
unfolding product
product-le_left x y h = let bound : x * y ≤ x * 255 = mul-le-mul_left x (omega arith) in omega arith

pub product-le_right : (x y : ℕ) → x < 2 ^ 8 → product x y ≤ y
unfolding product
product-le_right x y h = let bound : y * x ≤ y * 255 = mul-le-mul_left y (omega arith) in omega (arith, mul_comm x y)

-- a greater byte has a greater product, and what is over stays less too
pub product-mono : (x z y : ℕ) → x ≤ z → product x y ≤ product z y
unfolding product
product-mono x z y h = let bound : y * x ≤ y * z = mul-le-mul_left y h in omega (arith, mul_comm x y, mul_comm z y)

-- what a product leaves of a byte grows with the byte
pub rest-mono : (x z y : ℕ) → x ≤ z → y < 2 ^ 8 → x - product x y ≤ z - product z y
unfolding product
rest-mono x z y h k = rest_grows x (z - x) z (omega arith)
  where
    rest_grows : (x more z : ℕ) → z ≡ x + more → x - (x * y + x) / 256 ≤ z - (z * y + z) / 256
    rest_grows x more z e = let bound : more * y ≤ more * 255 = mul-le-mul_left more (omega arith) in
        let parts : z * y ≡ x * y + more * y = omega (arith, ap (λ n. n * y) e) in omega arith
