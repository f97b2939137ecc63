-- Maps whose values are near.
use Rattle.std.proofs.Common.{◌≡◌, ℕ, ℤ, Bool, true, false, cond, Some, None, Option, IfSome, subst, sym, ap, ◌∙◌}
use Rattle.std.specs.Cmp.{nat_cmp_total}
use Rattle.std.specs.FinMap.{FinMap, empty, get, insert, get-empty, get-insert}
use Rattle.std.specs.Ordering.{nat_cmp, eq_by_cmp}
use Rattle.spatial_tree.specs.Moves.{IsNearPair, AreNearPairs}

pub near_empty : (m : FinMap nat_cmp (ℤ × ℤ)) → m ≡ empty → AreNearPairs m
near_empty m none k d h =
    let lost : get m k ≡ None = ap (λ (n : FinMap nat_cmp (ℤ × ℤ)). get n k) none ∙ get-empty nat_cmp k in
    cc

one : (b : Bool) (m : FinMap nat_cmp (ℤ × ℤ)) (q : ℕ) (v d : ℤ × ℤ) → AreNearPairs m → IsNearPair v → cond b (Some v) (get m q) ≡ Some d → IsNearPair d
one true m q v d near h e = subst (λ (o : Option (ℤ × ℤ)). IfSome o IsNearPair) e h
one false m q v d near h e = near q d e

pub near_insert : (m n : FinMap nat_cmp (ℤ × ℤ)) (k : ℕ) (v : ℤ × ℤ) → n ≡ insert m k v → AreNearPairs m → IsNearPair v → AreNearPairs n
near_insert m n k v is near h q d e =
    one (eq_by_cmp nat_cmp q k) m q v d near h (sym (ap (λ (o : FinMap nat_cmp (ℤ × ℤ)). get o q) is ∙ get-insert nat_cmp_total m k v q) ∙ e)
