-- The way down to a member of a list in which parents stand first.
use Rattle.std.proofs.Common.{◌≡◌, ℕ, zero, suc, ◌<◌, ◌≤◌, List, [], ◌∷◌, ◌++◌, length, get_or, Option, Some, None, refl, sym, ap, subst, ◌∙◌, arith}
use Rattle.std.specs.Prelude.{All, slice_get}
use Rattle.std.proofs.lemmas.List.Elements.{All-nil, All-push}
use Rattle.std.proofs.lemmas.Option.{slice_get-get_or, slice_get_within, get_or_from_slice_get}
use Rattle.field_forms.specs.Facts.{IsDefined}
use Rattle.display_list.specs.Facts.{EachAt}
use Rattle.spatial_tree.specs.Lineage.{after_ancestors, lineage}

-- each member's parent stands before it
abbrev pub HasParentsFirst : {A : Type 0} → (A → Option ℕ) → List A → Type 0
HasParentsFirst parent xs = EachAt (λ k x. IsDefined k (parent x)) xs

pub defined_more : (m n : ℕ) (o : Option ℕ) → m ≤ n → IsDefined m o → IsDefined n o
defined_more m n None le h = h
defined_more m n (Some k) le h = omega arith

module _ {A : Type 0} (parent : A → Option ℕ) (xs : List A) where
  pub lineage-none : (steps : ℕ) → lineage parent xs steps None ≡ []
  lineage-none zero = refl
  lineage-none (suc steps) = refl

  enough_found : (m n i : ℕ) → i < length xs → ((o : Option ℕ) → IsDefined i o → lineage parent xs m o ≡ lineage parent xs n o) → HasParentsFirst parent xs
      → (o : Option A) → slice_get xs i ≡ o → after_ancestors parent (lineage parent xs m) o ≡ after_ancestors parent (lineage parent xs n) o
  enough_found m n i w f first None e = refl
  enough_found m n i w f first (Some x) e =
      let is : get_or xs i x ≡ x = get_or_from_slice_get xs i x x e in
      ap (λ (ys : List A). ys ++ x ∷ []) (f (parent x) (subst (λ (y : A). IsDefined i (parent y)) is (first i x w)))

  -- more steps than a member's index find nothing more
  pub lineage-enough : HasParentsFirst parent xs → (m n : ℕ) (o : Option ℕ) → IsDefined m o → IsDefined n o → IsDefined (length xs) o
      → lineage parent xs m o ≡ lineage parent xs n o
  lineage-enough first m n None h k w = lineage-none m ∙ sym (lineage-none n)
  lineage-enough first zero n (Some i) h k w = absurd (omega arith)
  lineage-enough first (suc m) zero (Some i) h k w = absurd (omega arith)
  lineage-enough first (suc m) (suc n) (Some i) h k w =
      enough_found m n i w (λ o b. lineage-enough first m n o (defined_more i m o (omega arith) b) (defined_more i n o (omega arith) b) (defined_more i (length xs) o (omega arith) b)) first (slice_get xs i) refl

  -- a member stands after its parent's lineage
  pub lineage-step : HasParentsFirst parent xs → (steps i : ℕ) (d : A) → i < steps → i < length xs
      → lineage parent xs steps (Some i) ≡ lineage parent xs steps (parent (get_or xs i d)) ++ get_or xs i d ∷ []
  lineage-step first zero i d h w = absurd (omega arith)
  lineage-step first (suc steps) i d h w =
      let x = get_or xs i d in
      let before : IsDefined i (parent x) = first i d w in
      ap (after_ancestors parent (lineage parent xs steps)) (slice_get-get_or xs i d w)
      ∙ ap (λ (ys : List A). ys ++ x ∷ []) (lineage-enough first steps (suc steps) (parent x) (defined_more i steps (parent x) (omega arith) before) (defined_more i (suc steps) (parent x) (omega arith) before) (defined_more i (length xs) (parent x) (omega arith) before))

  all_found : (P : A → Type 0) → All P xs → (steps i : ℕ) → ((o : Option ℕ) → All P (lineage parent xs steps o)) → (o : Option A) → slice_get xs i ≡ o
      → All P (after_ancestors parent (lineage parent xs steps) o)
  all_found P h steps i f None e = All-nil P
  all_found P h steps i f (Some x) e =
      let is : get_or xs i x ≡ x = get_or_from_slice_get xs i x x e in
      All-push P (lineage parent xs steps (parent x)) x (f (parent x)) (subst P is (h i x (slice_get_within xs i x e)))

  -- what holds of all members holds of those on the way
  pub lineage-all : (P : A → Type 0) → All P xs → (steps : ℕ) (o : Option ℕ) → All P (lineage parent xs steps o)
  lineage-all P h steps None = subst (All P) (sym (lineage-none steps)) (All-nil P)
  lineage-all P h zero (Some i) = All-nil P
  lineage-all P h (suc steps) (Some i) = all_found P h steps i (λ o. lineage-all P h steps o) (slice_get xs i) refl
