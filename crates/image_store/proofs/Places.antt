-- Where an index stands beside a piece.
use Rattle.std.proofs.Common.{◌≡◌, ℕ, ◌+◌, ◌-◌, ◌<◌, ◌≤◌, ◌⊎◌, inl, inr, arith}
use Rattle.std.proofs.lemmas.Bool.{cases_lt}

-- before a piece, in it or after it
pub place : (at n i : ℕ) → (i < at) ⊎ ((k : ℕ) × (k < n) × (at + k ≡ i)) ⊎ (at + n ≤ i)
place at n i = elim (cases_lt i at) [
  | inl h ↦ inl h
  | inr h ↦ elim (cases_lt i (at + n)) [
    | inl l ↦ inr (inl (i - at, omega arith, omega arith))
    | inr m ↦ inr (inr m)
  ]
]
