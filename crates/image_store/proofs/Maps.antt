-- Laws of finite maps whose keys are in a total order that tells them apart.
use Rattle.std.proofs.Common.{◌≡◌, Bool, true, false, cond, Some, None, Ordering, sym, ap, refl, ◌∙◌}
use Rattle.std.proofs.lemmas.Map.Views.{tells_apart}
use Rattle.std.specs.Cmp.{IsTotalOrder, tied_itself}
use Rattle.std.specs.FinMap.{FinMap, IsAntisymmetric, get, insert, remove, get-insert, get-remove, same_map}
use Rattle.std.specs.Ordering.{eq_by_cmp, is_eq}

twice : {A : Type 0} (b : Bool) (x y z : A) → cond b x (cond b y z) ≡ cond b x z
twice true x y z = refl
twice false x y z = refl

module _ {K X : Type 0} {R : K → K → Ordering} (o : IsTotalOrder R) (exact : IsAntisymmetric R) where
  kept : (q k : K) (m : FinMap R X) (v : X) → get m k ≡ Some v → (b : Bool) → eq_by_cmp R q k ≡ b → cond b (Some v) (get m q) ≡ get m q
  kept q k m v h true e = sym (ap (get m) (tells_apart exact q k e) ∙ h)
  kept q k m v h false e = refl

  kept_none : (q k : K) (m : FinMap R X) → get m k ≡ None → (b : Bool) → eq_by_cmp R q k ≡ b → cond b None (get m q) ≡ get m q
  kept_none q k m h true e = sym (ap (get m) (tells_apart exact q k e) ∙ h)
  kept_none q k m h false e = refl

  pub gone : (m : FinMap R X) (k : K) → get (remove m k) k ≡ None
  gone m k = get-remove o m k k ∙ ap (λ r. cond (is_eq r) None (get m k)) (tied_itself o k)

  pub remove_none : (m : FinMap R X) (k : K) → get m k ≡ None → remove m k ≡ m
  remove_none m k h = same_map o exact _ _ (λ q. get-remove o m k q ∙ kept_none q k m h (eq_by_cmp R q k) refl)

  pub insert_same : (m : FinMap R X) (k : K) (v : X) → get m k ≡ Some v → insert m k v ≡ m
  insert_same m k v h = same_map o exact _ _ (λ q. get-insert o m k v q ∙ kept q k m v h (eq_by_cmp R q k) refl)

  pub insert_removed : (m : FinMap R X) (k : K) (v : X) → insert (remove m k) k v ≡ insert m k v
  insert_removed m k v = same_map o exact _ _ (λ q.
      get-insert o (remove m k) k v q ∙ ap (cond (eq_by_cmp R q k) (Some v)) (get-remove o m k q) ∙ twice (eq_by_cmp R q k) (Some v) None (get m q) ∙ sym (get-insert o m k v q))

  pub remove_inserted : (m : FinMap R X) (k : K) (v : X) → remove (insert m k v) k ≡ remove m k
  remove_inserted m k v = same_map o exact _ _ (λ q.
      get-remove o (insert m k v) k q ∙ ap (cond (eq_by_cmp R q k) None) (get-insert o m k v q) ∙ twice (eq_by_cmp R q k) None (Some v) (get m q) ∙ sym (get-remove o m k q))
