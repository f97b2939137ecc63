-- One tile is one column and one row.
use Rattle.std.proofs.Common.{◌≡◌, ◌<◌, ℕ, Bool, true, false, refl, sym, ap₂, ◌∙◌, arith}
use Rattle.tile_grid.specs.declared.part.GridPart.{GridPart}
use Rattle.tile_grid.specs.Parts.{is_in_part}

-- the tile alone, or nothing
abbrev pub one_part : ℕ → GridPart
one_part n = record { columns = record { from = 0; to = n }; rows = record { from = 0; to = n } }

first : (k : ℕ) → k < 1 → k ≡ 0
first k h = omega (arith, h)

in_one : is_in_part (one_part 1) 0 0 ≡ true
unfolding is_in_part
in_one = refl

in_none : is_in_part (one_part 0) 0 0 ≡ false
unfolding is_in_part
in_none = refl

pub one_met : (c r : ℕ) (b : Bool) → c < 1 → r < 1 → b ≡ true → is_in_part (one_part 1) c r ≡ b
one_met c r b h k e = ap₂ (is_in_part (one_part 1)) (first c h) (first r k) ∙ in_one ∙ sym e

pub one_missed : (c r : ℕ) (b : Bool) → c < 1 → r < 1 → b ≡ false → is_in_part (one_part 0) c r ≡ b
one_missed c r b h k e = ap₂ (is_in_part (one_part 0)) (first c h) (first r k) ∙ in_none ∙ sym e
