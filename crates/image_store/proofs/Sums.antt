-- Sums over the values of a map.
use Rattle.std.proofs.Common.{Bor, map, min, ◌^◌, ◌-◌, ◌≡◌, ℕ, ◌+◌, Bool, true, false, ◌&&◌, T, cond, Some, None, Ordering, Less, Equal, Greater, List, [], ◌∷◌, is_some, subst, sym, ap, refl, ◌∙◌, arith}
use Rattle.std.proofs.lemmas.List.Sums.{sum_by-cons}
use Rattle.std.specs.Cmp.{IsTotalOrder}
use Rattle.std.specs.FinMap.{FinMap, IsAntisymmetric, get, insert, remove, empty, entries, find, is_sorted, len, len-insert, entries_sorted, get-entries, entries-insert, entries-from_sorted, from_sorted, get-empty, get-from_sorted, same_map}
use Rattle.std.specs.FinMap.Entries.{put, below_all, by_order}
use Rattle.std.specs.List.{sum_by}
use Rattle.std.specs.Map.Iter.{deref_pair}
use Rattle.std.specs.Ordering.{is_eq, is_lt}
use Rattle.image_store.proofs.Maps.{gone, insert_removed, insert_same}
use Rattle.image_store.specs.Keyed.{counted_at}
use Rattle.image_store.specs.StoreModel.{sum_of}

first : (a b : Bool) → T (a && b) → T a
first true b p = tt
first false b p = absurd p

second : (a b : Bool) → T (a && b) → T b
second true b p = p
second false b p = absurd p

both : (a b : Bool) → T a → T b → T (a && b)
both true b p q = q
both false b p q = absurd p

less : (r : Ordering) → T (is_lt r) → r ≡ Less
less Less p = refl
less Equal p = absurd p
less Greater p = absurd p

module _ {K X : Type 0} (R : K → K → Ordering) (o : IsTotalOrder R) (f : X → ℕ) where
  abbrev total : List (K × X) → ℕ
  total es = sum_by (λ (e : K × X). f e.1) es

  find_below : (q : K) (es : List (K × X)) → T (below_all R q es) → find R q es ≡ None
  find_below q [] h = refl
  find_below q (e ∷ es) h = ap (λ r. cond (is_eq r) (Some e.1) (find R q es)) (less _ (first _ _ h)) ∙ find_below q es (second _ _ h)

  below_less : (x y : K) (es : List (K × X)) → R x y ≡ Less → T (below_all R y es) → T (below_all R x es)
  below_less x y [] p h = tt
  below_less x y (e ∷ es) p h = both _ _ (subst (λ r. T (is_lt r)) (sym (o.trans x y e.0 p (less _ (first _ _ h)))) tt) (below_less x y es p (second _ _ h))

  none_below : (k : K) (e : K × X) (es : List (K × X)) → R k e.0 ≡ Less → T (below_all R e.0 es) → find R k (e ∷ es) ≡ None
  none_below k e es p h = ap (λ r. cond (is_eq r) (Some e.1) (find R k es)) p ∙ find_below k es (below_less k e.0 es p h)

  at_less : (k : K) (v : X) (e : K × X) (es : List (K × X)) → find R k (e ∷ es) ≡ None → total ((k, v) ∷ e ∷ es) + counted_at f (find R k (e ∷ es)) ≡ total (e ∷ es) + f v
  at_less k v e es n = let c = sum_by-cons (λ (e : K × X). f e.1) (k, v) (e ∷ es) in let z : counted_at f (find R k (e ∷ es)) ≡ 0 = ap (counted_at f) n in omega arith

  at_equal : (k : K) (v : X) (e : K × X) (es : List (K × X)) → R k e.0 ≡ Equal → total ((e.0, v) ∷ es) + counted_at f (find R k (e ∷ es)) ≡ total (e ∷ es) + f v
  at_equal k v e es p =
      let c = sum_by-cons (λ (e : K × X). f e.1) (e.0, v) es in let d = sum_by-cons (λ (e : K × X). f e.1) e es in
      let z : counted_at f (find R k (e ∷ es)) ≡ f e.1 = ap (λ r. counted_at f (cond (is_eq r) (Some e.1) (find R k es))) p in omega arith

  at_greater : (k : K) (v : X) (e : K × X) (es : List (K × X)) → R k e.0 ≡ Greater → total (put R k v es) + counted_at f (find R k es) ≡ total es + f v → total (e ∷ put R k v es) + counted_at f (find R k (e ∷ es)) ≡ total (e ∷ es) + f v
  at_greater k v e es p i =
      let c = sum_by-cons (λ (e : K × X). f e.1) e (put R k v es) in let d = sum_by-cons (λ (e : K × X). f e.1) e es in
      let z : counted_at f (find R k (e ∷ es)) ≡ counted_at f (find R k es) = ap (λ r. counted_at f (cond (is_eq r) (Some e.1) (find R k es))) p in omega arith

  total_put : (k : K) (v : X) (es : List (K × X)) → T (is_sorted R es) → total (put R k v es) + counted_at f (find R k es) ≡ total es + f v
  total_put k v [] h = omega arith
  total_put k v (e ∷ es) h =
      elim (R k e.0) as (λ r. R k e.0 ≡ r → total (by_order r ((k, v) ∷ e ∷ es) ((e.0, v) ∷ es) (e ∷ put R k v es)) + counted_at f (find R k (e ∷ es)) ≡ total (e ∷ es) + f v) [
        | Less ↦ λ p. at_less k v e es (none_below k e es p (first _ _ h))
        | Equal ↦ λ p. at_equal k v e es p
        | Greater ↦ λ p. at_greater k v e es p (total_put k v es (second _ _ h))
      ] refl

  -- with a value put at a key, less what stood there
  pub sum-insert : (m : FinMap R X) (k : K) (v : X) → sum_of f (insert m k v) + counted_at f (get m k) ≡ sum_of f m + f v
  sum-insert m k v =
      ap (λ es. total es + counted_at f (get m k)) (entries-insert o m k v)
      ∙ ap (λ r. total (put R k v (entries m)) + counted_at f r) (get-entries m k)
      ∙ total_put k v (entries m) (entries_sorted m)

  module _ (exact : IsAntisymmetric R) where
    pub sum-empty : sum_of f (empty {X = X} {R = R}) ≡ 0
    sum-empty = ap total (ap entries (same_map o exact empty (from_sorted []) (λ q. get-empty R q ∙ sym (get-from_sorted R [] q tt))) ∙ entries-from_sorted R [] tt)

    -- a value put at a key, and what stands beside it
    pub sum-inserted : (m : FinMap R X) (k : K) (v : X) → sum_of f (insert m k v) ≡ sum_of f (remove m k) + f v
    sum-inserted m k v =
        let i = sum-insert (remove m k) k v in
        let n : counted_at f (get (remove m k) k) ≡ 0 = ap (counted_at f) (gone o exact m k) in
        let b : sum_of f (insert (remove m k) k v) ≡ sum_of f (insert m k v) = ap (sum_of f) (insert_removed o exact m k v) in
        omega arith

    pub len-inserted : (m : FinMap R X) (k : K) (v : X) → len (insert m k v) ≡ len (remove m k) + 1
    len-inserted m k v = ap len (sym (insert_removed o exact m k v)) ∙ len-insert o (remove m k) k v ∙ ap (λ r. cond (is_some r) (len (remove m k)) (len (remove m k) + 1)) (gone o exact m k)

    pub sum-removed : (m : FinMap R X) (k : K) (v : X) → get m k ≡ Some v → sum_of f (remove m k) + f v ≡ sum_of f m
    sum-removed m k v h = sym (sum-inserted m k v) ∙ ap (sum_of f) (insert_same o exact m k v h)

    pub len-removed : (m : FinMap R X) (k : K) (v : X) → get m k ≡ Some v → len (remove m k) + 1 ≡ len m
    len-removed m k v h = sym (len-inserted m k v) ∙ ap len (insert_same o exact m k v h)

-- a sum over what was read of a map's entries
pub sum_read : {K X : Type 0} (f : X → ℕ) (items : List (Bor K × Bor X)) → sum_by (λ (y : Bor K × Bor X). f y.1.now) items ≡ sum_by (λ (e : K × X). f e.1) (map deref_pair items)
sum_read f [] = refl
sum_read {K} {X} f (y ∷ ys) =
    sum_by-cons (λ (y : Bor K × Bor X). f y.1.now) y ys ∙ ap (λ n. f y.1.now + n) (sum_read f ys) ∙ sym (sum_by-cons (λ (e : K × X). f e.1) (deref_pair y) (map deref_pair ys))

-- a sum that is held at a cap goes on as the whole sum does
pub capped : (next now more sum all : ℕ) → next ≡ min (now + more) (2 ^ 64 - 1) → now ≡ min (2 ^ 64 - 1) sum → {x : ℕ} → more ≡ x → all ≡ sum + x → next ≡ min (2 ^ 64 - 1) all
capped next now more sum all n m {x} e a = omega arith
