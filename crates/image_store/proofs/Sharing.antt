-- Values that are shared.
use Rattle.std.proofs.Common.{◌≡◌, ℕ, zero, suc, ◌<◌, List, [], ◌∷◌, ◌++◌, length, get_or, set, ap, refl, arith}
use Rattle.std.specs.declared.rc.Rc.{Rc}
use Rattle.blend_rules.specs.declared.colour.Px.{Px}
use Rattle.image_store.specs.Bands.{band_at, values}

module _ {Z : Type 0} where
  pub length-values : (shared : List (Rc (List Px) Z)) → length (values shared) ≡ length shared
  length-values [] = refl
  length-values (s ∷ ss) = ap suc (length-values ss)

  pub value_read : (shared : List (Rc (List Px) Z)) (k : ℕ) (x : Rc (List Px) Z) → k < length shared → x ≡ get_or shared k x → x.value ≡ band_at (values shared) k
  value_read [] k x h e = absurd (omega arith)
  value_read (s ∷ ss) zero x h e = ap (λ (r : Rc (List Px) Z). r.value) e
  value_read (s ∷ ss) (suc k) x h e = value_read ss k x (omega arith) e

  pub values-set : (shared : List (Rc (List Px) Z)) (k : ℕ) (x : Rc (List Px) Z) → values (set shared k x) ≡ set (values shared) k x.value
  values-set [] k x = refl
  values-set (s ∷ ss) zero x = refl
  values-set (s ∷ ss) (suc k) x = ap (λ l. s.value ∷ l) (values-set ss k x)

  pub values_push : (shared : List (Rc (List Px) Z)) (x : Rc (List Px) Z) → values (shared ++ x ∷ []) ≡ values shared ++ x.value ∷ []
  values_push [] x = refl
  values_push (s ∷ ss) x = ap (λ l. s.value ∷ l) (values_push ss x)
