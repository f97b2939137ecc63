-- Points beside a rectangle and in it.
use Rattle.std.proofs.Common.{◌≡◌, ℤ, ◌≤ℤ◌, ◌<ℤ◌, true, false, arith}
use Rattle.std.proofs.lemmas.Int.{ints}
use Rattle.wr_geom.specs.Bounds.{Bounds, holds}

pub holds_at : (b : Bounds) (x y : ℤ) → b.x0 ≤ℤ x → x <ℤ b.x1 → b.y0 ≤ℤ y → y <ℤ b.y1 → holds b x y ≡ true
unfolding holds
holds_at b x y h k l m = grind (arith, ints)

pub holds_left : (b : Bounds) (x y : ℤ) → x <ℤ b.x0 → holds b x y ≡ false
unfolding holds
holds_left b x y h = grind (arith, ints)

pub holds_right : (b : Bounds) (x y : ℤ) → b.x1 ≤ℤ x → holds b x y ≡ false
unfolding holds
holds_right b x y h = grind (arith, ints)

pub holds_above : (b : Bounds) (x y : ℤ) → y <ℤ b.y0 → holds b x y ≡ false
unfolding holds
holds_above b x y h = grind (arith, ints)

pub holds_below : (b : Bounds) (x y : ℤ) → b.y1 ≤ℤ y → holds b x y ≡ false
unfolding holds
holds_below b x y h = grind (arith, ints)
