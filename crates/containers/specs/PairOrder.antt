-- The order of pairs of numbers: the first numbers decide, and else the second ones.
use Rattle.std.specs.Prelude.{ℕ}
use Rattle.std.specs.declared.cmp.Ordering.{Ordering}
use Rattle.std.specs.Ordering.{nat_cmp, ordering_then}

abbrev pub pair_cmp : ℕ × ℕ → ℕ × ℕ → Ordering
pair_cmp = λ x y. ordering_then (nat_cmp x.0 y.0) (nat_cmp x.1 y.1)
