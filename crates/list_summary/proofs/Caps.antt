-- Sums that stand still at the cap.
use Rattle.std.proofs.Common.{◌≡◌, ℕ, zero, suc, ◌+◌, ◌*◌, ◌<◌, ◌≤◌, min, max, arith, inl, inr}
use Rattle.std.proofs.lemmas.Bool.{cases_lt}
use Rattle.list_summary.specs.Totals.{capped}

pub capped-sum : (a b : ℕ) → capped (capped a + capped b) ≡ capped (a + b)
unfolding capped
capped-sum a b = omega arith

pub capped-one : (a n : ℕ) → capped (capped a + n) ≡ capped (a + n)
unfolding capped
capped-one a n = omega arith

pub capped-max : (a b : ℕ) → capped (max a b) ≡ max (capped a) (capped b)
unfolding capped
capped-max a b = omega arith

pub capped-three : (a b c : ℕ) → capped (capped (a + b) + c) ≡ capped (a + capped (b + c))
unfolding capped
capped-three a b c = omega arith

same_below : (x m i : ℕ) → i ≤ 1048577 → capped (capped x + suc m * capped i) ≡ capped (x + suc m * i)
unfolding capped
same_below x m i le = let e : min i 1048577 ≡ i = omega arith in rw e (omega arith)

same_above : (x m i : ℕ) → 1048577 < i → capped (capped x + suc m * capped i) ≡ capped (x + suc m * i)
unfolding capped
same_above x m i lt = let e : min i 1048577 ≡ 1048577 = omega arith in rw e (omega arith)

pub capped-product : (x n i : ℕ) → capped (capped x + n * capped i) ≡ capped (x + n * i)
unfolding capped
capped-product x zero i = omega arith
capped-product x (suc m) i = elim (cases_lt 1048577 i) [ inl lt ↦ same_above x m i lt | inr le ↦ same_below x m i le ]

pub capped-positive : (n : ℕ) → 0 < capped (suc n)
unfolding capped
capped-positive n = omega arith
