-- Laws of finite maps whose keys are in a total order that tells them apart.
use Rattle.std.proofs.lemmas.Map.Views.{tells_apart}
use Rattle.std.proofs.Common.{Bool, true, false, ◌≡◌, ◌≢◌, cond, Some, None, Ordering, refl, sym, ap, ◌∙◌}
use Rattle.std.specs.Cmp.{IsTotalOrder, tied_itself}
use Rattle.std.specs.FinMap.{FinMap, IsAntisymmetric, get, insert, remove, get-empty, get-insert, get-remove, same_map}
use Rattle.std.specs.Ordering.{eq_by_cmp, is_eq}
use Rattle.containers.specs.Laws.{MapLaws}

twice : {A : Type 0} (b : Bool) (x y z : A) → cond b x (cond b y z) ≡ cond b x z
twice true x y z = refl
twice false x y z = refl

other : {A : Type 0} (b : Bool) (P : Type 0) (x y : A) → (b ≡ true → P) → ¬ P → cond b x y ≡ y
other true P x y h n = absurd (n (h refl))
other false P x y h n = refl

kept : {A : Type 0} (b : Bool) (x y : A) → (b ≡ true → y ≡ x) → cond b x y ≡ y
kept true x y h = sym (h refl)
kept false x y h = refl

itself : {K A : Type 0} {R : K → K → Ordering} → IsTotalOrder R → (k : K) (x y : A) → cond (eq_by_cmp R k k) x y ≡ x
itself o k x y = ap (λ r. cond (is_eq r) x y) (tied_itself o k)

module _ {K V : Type 0} {R : K → K → Ordering} (o : IsTotalOrder R) where
  pub get-insert_same : (m : FinMap R V) (k : K) (v : V) → get (insert m k v) k ≡ Some v
  get-insert_same m k v = get-insert o m k v k ∙ itself o k _ _

  pub get-remove_same : (m : FinMap R V) (k : K) → get (remove m k) k ≡ None
  get-remove_same m k = get-remove o m k k ∙ itself o k _ _

  module _ (exact : IsAntisymmetric R) where
    pub get-insert_other : (m : FinMap R V) (k : K) (v : V) (q : K) → q ≢ k → get (insert m k v) q ≡ get m q
    get-insert_other m k v q n = get-insert o m k v q ∙ other (eq_by_cmp R q k) (q ≡ k) _ _ (tells_apart exact q k) n

    pub get-remove_other : (m : FinMap R V) (k q : K) → q ≢ k → get (remove m k) q ≡ get m q
    get-remove_other m k q n = get-remove o m k q ∙ other (eq_by_cmp R q k) (q ≡ k) _ _ (tells_apart exact q k) n

    -- a value in the place of one that was taken out
    pub insert-remove : (m : FinMap R V) (k : K) (v : V) → insert (remove m k) k v ≡ insert m k v
    insert-remove m k v = same_map o exact _ _ (λ q.
        get-insert o (remove m k) k v q
        ∙ ap (cond (eq_by_cmp R q k) (Some v)) (get-remove o m k q)
        ∙ twice (eq_by_cmp R q k) (Some v) None (get m q)
        ∙ sym (get-insert o m k v q))

    -- a value in the place of another
    pub insert-insert : (m : FinMap R V) (k : K) (v w : V) → insert (insert m k v) k w ≡ insert m k w
    insert-insert m k v w = same_map o exact _ _ (λ q.
        get-insert o (insert m k v) k w q
        ∙ ap (cond (eq_by_cmp R q k) (Some w)) (get-insert o m k v q)
        ∙ twice (eq_by_cmp R q k) (Some w) (Some v) (get m q)
        ∙ sym (get-insert o m k w q))

    pub remove-insert : (m : FinMap R V) (k : K) (v : V) → remove (insert m k v) k ≡ remove m k
    remove-insert m k v = same_map o exact _ _ (λ q.
        get-remove o (insert m k v) k q
        ∙ ap (cond (eq_by_cmp R q k) None) (get-insert o m k v q)
        ∙ twice (eq_by_cmp R q k) None (Some v) (get m q)
        ∙ sym (get-remove o m k q))

    -- what stands at a key, put there again
    pub insert_same : (m : FinMap R V) (k : K) (v : V) → get m k ≡ Some v → insert m k v ≡ m
    insert_same m k v h = same_map o exact _ _ (λ q.
        get-insert o m k v q ∙ kept (eq_by_cmp R q k) (Some v) (get m q) (λ e. ap (get m) (tells_apart exact q k e) ∙ h))

    -- nothing, taken out
    pub remove_none : (m : FinMap R V) (k : K) → get m k ≡ None → remove m k ≡ m
    remove_none m k h = same_map o exact _ _ (λ q.
        get-remove o m k q ∙ kept (eq_by_cmp R q k) None (get m q) (λ e. ap (get m) (tells_apart exact q k e) ∙ h))

    pub map_laws : MapLaws R V
    map_laws = record {
      nothing = get-empty R;
      inserted = get-insert_same;
      beside_inserted = get-insert_other;
      removed = get-remove_same;
      beside_removed = get-remove_other;
      put_back = insert-remove;
      replaced = insert-insert;
      taken_out = remove-insert;
      inserted_again = insert_same;
      removed_again = remove_none;
      same = same_map o exact;
    }
