-- Division that rounds down.
use Rattle.std.proofs.Common.{◌≡◌, ℕ, zero, suc, ◌<◌, ◌≤◌, ◌+◌, ◌*◌, ◌/◌, ◌↔◌, sym, ap, subst, ◌∙◌, arith}
use Rattle.std.specs.Prelude.{ℤ, pos, negsuc, neg_ℤ, ◌+ℤ◌, ◌-ℤ◌, ◌*ℤ◌, ◌≤ℤ◌, ◌<ℤ◌}
use Rattle.std.proofs.lemmas.Int.{ints, by_lt_z}
use Rattle.std.proofs.lemmas.Nat.{div_below, le-div, mul-le, div-add-mod', mod_below}
use Rattle.std.proofs.Math.Nat.{div-mul-le_self}
use Rattle.tile_grid.specs.Grids.{tile_of}

-- on natural numbers
times_le : (m n s : ℕ) → 0 < s → m ≤ n / s → m * s ≤ n
times_le m n s h k = let p = mul-le m s (n / s) s k (omega arith) in let q = div-mul-le_self n s in omega (arith, p, q)

le_times : (m n s : ℕ) → 0 < s → m * s ≤ n → m ≤ n / s
le_times m n s h k = le-div m n s h k

neg_pos : (k n : ℕ) → neg_ℤ (pos k) ≤ℤ pos n
neg_pos zero n = omega (arith, ints)
neg_pos (suc k) n = omega (arith, ints)

neg_neg : (k a : ℕ) → a < k → neg_ℤ (pos k) ≤ℤ negsuc a
neg_neg zero a h = absurd (omega (arith, h))
neg_neg (suc k) a h = omega (arith, ints, h)

neg_back : (k a : ℕ) → neg_ℤ (pos k) ≤ℤ negsuc a → a < k
neg_back zero a h = omega (arith, ints, h)
neg_back (suc k) a h = omega (arith, ints, h)

succ_times : (m s : ℕ) → suc m * s ≡ m * s + s
succ_times m s = omega arith

below : (a m s : ℕ) → 0 < s → a / s ≤ m → a < suc m * s
below a m s h k = let p = mul-le (a / s) s m s k (omega arith) in let q = div-add-mod' a s in let r = mod_below a s h in let e = succ_times m s in omega (arith, p, q, r, e)

pub tile_floor : (side : ℕ) (c z : ℤ) → 0 < side → (c ≤ℤ tile_of side z) ↔ ((c *ℤ pos side) ≤ℤ z)
tile_floor s (pos m) (pos n) h = (
  (λ x. let k : m ≤ n / s = omega (arith, ints, x) in let t = times_le m n s h k in omega (arith, ints, t)),
  (λ x. let k : m * s ≤ n = omega (arith, ints, x) in let t = le_times m n s h k in omega (arith, ints, t)),
)
tile_floor s (pos m) (negsuc a) h = ((λ x. absurd (omega (arith, ints, x))), (λ x. absurd (omega (arith, ints, x))))
tile_floor s (negsuc m) (pos n) h = ((λ x. neg_pos (suc m * s) n), (λ x. omega (arith, ints)))
tile_floor s (negsuc m) (negsuc a) h = (
  (λ x. let k : a / s ≤ m = omega (arith, ints, x) in neg_neg (suc m * s) a (below a m s h k)),
  (λ x. let k : a / s < suc m = div_below a s (suc m) h (neg_back (suc m * s) a x) in omega (arith, ints, k)),
)

neg_step : (k s : ℕ) → neg_ℤ (pos k) ≡ (neg_ℤ (pos (k + s)) +ℤ pos s)
neg_step k s = omega (arith, ints)

one_back : (m : ℕ) → (negsuc (suc m) +ℤ pos 1) ≡ negsuc m
one_back m = omega (arith, ints)

-- one more tile
next_tile : (s : ℕ) (c : ℤ) → ((c +ℤ pos 1) *ℤ pos s) ≡ (c *ℤ pos s +ℤ pos s)
next_tile s (pos m) = ap (λ n. pos n) (let e = succ_times m s in omega (arith, e))
next_tile s (negsuc zero) = ap (λ n. pos n) (omega arith) ∙ neg_step 0 s ∙ ap (λ n. neg_ℤ (pos n) +ℤ pos s) (omega arith)
next_tile s (negsuc (suc m)) = ap (λ z. z *ℤ pos s) (one_back m) ∙ neg_step (suc m * s) s ∙ ap (λ n. neg_ℤ (pos n) +ℤ pos s) (sym (succ_times (suc m) s))

as_not : (x y : ℤ) → (x <ℤ y → ⊥) → y ≤ℤ x
as_not x y h = by_lt_z x y (λ k. absurd (h k)) (λ k. k)

not_both : (x y : ℤ) → x <ℤ y → y ≤ℤ x → ⊥
not_both x y h k = omega (arith, ints, h, k)

-- not before the tile of a: its end is after a
after_floor : (s : ℕ) (a c : ℤ) → 0 < s → (tile_of s a ≤ℤ c) ↔ (a <ℤ (c *ℤ pos s +ℤ pos s))
after_floor s a c h =
    let f = tile_floor s (c +ℤ pos 1) a h in (
      (λ x. by_lt_z a (c *ℤ pos s +ℤ pos s) (λ k. k) (λ k. absurd (let y = f.1 (subst (λ z. z ≤ℤ a) (sym (next_tile s c)) k) in not_both (tile_of s a) (c +ℤ pos 1) (omega (arith, ints, x)) y))),
      (λ x. by_lt_z c (tile_of s a) (λ k. absurd (let y = f.0 (omega (arith, ints, k)) in not_both a (c *ℤ pos s +ℤ pos s) x (subst (λ z. z ≤ℤ a) (next_tile s c) y))) (λ k. k)),
    )

-- not after the tile of the last before b: it begins before b
before_end : (s : ℕ) (b c : ℤ) → 0 < s → (c ≤ℤ tile_of s (b -ℤ pos 1)) ↔ ((c *ℤ pos s) <ℤ b)
before_end s b c h =
    let f = tile_floor s c (b -ℤ pos 1) h in
    ((λ x. let y = f.0 x in omega (arith, ints, y)), (λ x. f.1 (omega (arith, ints, x))))

pub tiles_meet : (side : ℕ) (a b c : ℤ) → 0 < side → ((tile_of side a ≤ℤ c) × (c ≤ℤ tile_of side (b -ℤ pos 1))) ↔ ((a <ℤ (c *ℤ pos side +ℤ pos side)) × ((c *ℤ pos side) <ℤ b))
tiles_meet s a b c h =
    let f = after_floor s a c h in let g = before_end s b c h in
    ((λ x. (f.0 x.0, g.0 x.1)), (λ x. (f.1 x.0, g.1 x.1)))

-- at least one tile has a coordinate of a range that has one
pub some_tile : (s : ℕ) (a b : ℤ) → 0 < s → a <ℤ b → tile_of s a ≤ℤ tile_of s (b -ℤ pos 1)
some_tile s a b h k =
    let low = (tile_floor s (tile_of s a) a h).0 (omega (arith, ints)) in
    (before_end s b (tile_of s a) h).1 (omega (arith, ints, low, k))
