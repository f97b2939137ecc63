-- Bytes of a row, written one by one and in parts.
use Rattle.std.proofs.Common.{◌≡◌, ℕ, ◌+◌, ◌≤◌, ◌<◌, List, length, get_or, set, ◌∙◌, inl, inr, arith}
use Rattle.std.proofs.lemmas.Bool.{cases_lt}
use Rattle.std.proofs.lemmas.List.{get_or-set_same, get_or-set_other}

-- the bytes from one index up to another are what f says, and all others are old
pub record IsWritten (f : ℕ → ℕ) (from to : ℕ) (old now : List ℕ) : Type 0 where
  pub scaled : (k : ℕ) → from ≤ k → k < to → get_or now k 0 ≡ f k
  pub below : (k : ℕ) → k < from → get_or now k 0 ≡ get_or old k 0
  pub ahead : (k : ℕ) → to ≤ k → get_or now k 0 ≡ get_or old k 0

-- one byte more
pub written_more : (f : ℕ → ℕ) (from i v : ℕ) (old now : List ℕ) → from ≤ i → i < length now → v ≡ f i → IsWritten f from i old now → IsWritten f from (i + 1) old (set now i v)
written_more f from i v old now h l e w = record {
  scaled = λ k p q. elim (cases_lt k i) [
    | inl less ↦ get_or-set_other now i k v 0 (λ same. omega arith) ∙ w.scaled k p less
    | inr more ↦
        let same : k ≡ i = omega arith in
        rw same (get_or-set_same now i v 0 l ∙ e)
  ];
  below = λ k p. get_or-set_other now i k v 0 (λ same. omega arith) ∙ w.below k p;
  ahead = λ k p. get_or-set_other now i k v 0 (λ same. omega arith) ∙ w.ahead k (omega arith);
}
