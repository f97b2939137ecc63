-- What stands in a store after a change.
use Rattle.std.proofs.Common.{◌≡◌, ℕ, Bool, true, false, ◌&&◌, cond, eqb, Option, Some, None, if◌then◌else◌, sym, ap, refl, ◌∙◌}
use Rattle.std.proofs.lemmas.Bool.{eqb-true}
use Rattle.std.proofs.lemmas.Map.Views.{tells_apart}
use Rattle.std.specs.Cmp.{IsTotalOrder, nat_cmp_total, tied_itself}
use Rattle.std.specs.declared.cmp.Ordering.{Ordering}
use Rattle.std.specs.Ordering.{nat_cmp, eq_by_cmp, is_eq}
use Rattle.std.specs.FinMap as map
use Rattle.image_store.specs.Models.{ImageModel, MaskModel}
use Rattle.image_store.specs.StoreModel.{StoreModel, or_empty, put_group, image_at, glyph_at}
use Rattle.image_store.specs.Laws.{ImageIsPut, ImageIsGone, GlyphIsPut, FontIsGone}
use Rattle.image_store.proofs.PairOrderLaws.{pair_cmp_total, pair_cmp-IsAntisymmetric}

both : (a b : Bool) → a ≡ true → b ≡ true → (a && b) ≡ true
both a b p q = ap (λ t. t && b) p ∙ q

both_true : (a b : Bool) → (a && b) ≡ true → (a ≡ true) × (b ≡ true)
both_true true b e = (refl, e)
both_true false b e = absurd (cc)

cond_true : {A : Type 0} (b : Bool) (x y : A) → b ≡ true → cond b x y ≡ x
cond_true b x y e = ap (λ t. cond t x y) e

cond_not : {A : Type 0} (b : Bool) (x y : A) → ¬ (b ≡ true) → cond b x y ≡ y
cond_not true x y n = absurd (n refl)
cond_not false x y n = refl

zero_of : (n : ℕ) → eqb n 0 ≡ true → n ≡ 0
zero_of n t = search (eqb-true n 0)

module _ {K X : Type 0} {R : K → K → Ordering} (o : IsTotalOrder R) (exact : map.IsAntisymmetric R) where
  abbrev pub value : map.FinMap R (map.FinMap nat_cmp X) → K → ℕ → Option X
  value groups p k = map.get (or_empty (map.get groups p)) k

  same_group : (groups : map.FinMap R (map.FinMap nat_cmp X)) (p q : K) → eq_by_cmp R q p ≡ true → or_empty (map.get groups p) ≡ or_empty (map.get groups q)
  same_group groups p q e = ap (λ r. or_empty (map.get groups r)) (sym (tells_apart exact q p e))

  put_case : (groups : map.FinMap R (map.FinMap nat_cmp X)) (p q : K) (k j : ℕ) (x : X) (b : Bool) → eq_by_cmp R q p ≡ b
      → map.get (or_empty (cond b (Some (map.insert (or_empty (map.get groups p)) k x)) (map.get groups q))) j ≡ cond (b && eq_by_cmp nat_cmp j k) (Some x) (value groups q j)
  put_case groups p q k j x true e = map.get-insert nat_cmp_total (or_empty (map.get groups p)) k x j ∙ ap (λ m. cond (eq_by_cmp nat_cmp j k) (Some x) (map.get m j)) (same_group groups p q e)
  put_case groups p q k j x false e = refl

  -- after a value was put
  pub value_put : (groups : map.FinMap R (map.FinMap nat_cmp X)) (p : K) (k : ℕ) (x : X) (q : K) (j : ℕ)
      → value (map.insert groups p (map.insert (or_empty (map.get groups p)) k x)) q j ≡ cond (eq_by_cmp R q p && eq_by_cmp nat_cmp j k) (Some x) (value groups q j)
  value_put groups p k x q j = ap (λ m. map.get (or_empty m) j) (map.get-insert o groups p (map.insert (or_empty (map.get groups p)) k x) q) ∙ put_case groups p q k j x (eq_by_cmp R q p) refl

  removed : (m : map.FinMap nat_cmp X) (k j : ℕ) → map.get (map.remove m k) j ≡ cond (eq_by_cmp nat_cmp j k) None (map.get m j)
  removed m k j = map.get-remove nat_cmp_total m k j

  kept_case : (groups : map.FinMap R (map.FinMap nat_cmp X)) (p q : K) (k j : ℕ) (b : Bool) → eq_by_cmp R q p ≡ b
      → map.get (or_empty (cond b (Some (map.remove (or_empty (map.get groups p)) k)) (map.get groups q))) j ≡ cond (b && eq_by_cmp nat_cmp j k) None (value groups q j)
  kept_case groups p q k j true e = removed (or_empty (map.get groups p)) k j ∙ ap (λ m. cond (eq_by_cmp nat_cmp j k) None (map.get m j)) (same_group groups p q e)
  kept_case groups p q k j false e = refl

  last_case : (groups : map.FinMap R (map.FinMap nat_cmp X)) (p q : K) (k j : ℕ) (b : Bool) → map.remove (or_empty (map.get groups p)) k ≡ map.empty → eq_by_cmp R q p ≡ b
      → map.get (or_empty (cond b None (map.get groups q))) j ≡ cond (b && eq_by_cmp nat_cmp j k) None (value groups q j)
  last_case groups p q k j true n e = ap (λ m. map.get m j) (sym n) ∙ removed (or_empty (map.get groups p)) k j ∙ ap (λ m. cond (eq_by_cmp nat_cmp j k) None (map.get m j)) (same_group groups p q e)
  last_case groups p q k j false n e = refl

  by_length : (groups : map.FinMap R (map.FinMap nat_cmp X)) (p : K) (k : ℕ) (q : K) (j : ℕ) (b : Bool) → (b ≡ true → map.remove (or_empty (map.get groups p)) k ≡ map.empty)
      → value (if b then map.remove groups p else map.insert groups p (map.remove (or_empty (map.get groups p)) k)) q j ≡ cond (eq_by_cmp R q p && eq_by_cmp nat_cmp j k) None (value groups q j)
  by_length groups p k q j true n = ap (λ m. map.get (or_empty m) j) (map.get-remove o groups p q) ∙ last_case groups p q k j (eq_by_cmp R q p) (n refl) refl
  by_length groups p k q j false n = ap (λ m. map.get (or_empty m) j) (map.get-insert o groups p (map.remove (or_empty (map.get groups p)) k) q) ∙ kept_case groups p q k j (eq_by_cmp R q p) refl

  -- after one was taken out
  pub value_taken : (groups : map.FinMap R (map.FinMap nat_cmp X)) (p : K) (k : ℕ) (q : K) (j : ℕ)
      → value (put_group groups p (map.remove (or_empty (map.get groups p)) k)) q j ≡ cond (eq_by_cmp R q p && eq_by_cmp nat_cmp j k) None (value groups q j)
  value_taken groups p k q j =
      by_length groups p k q j (eqb (map.len (map.remove (or_empty (map.get groups p)) k)) 0)
      (λ t. map.empty_of_len (map.remove (or_empty (map.get groups p)) k) (zero_of (map.len (map.remove (or_empty (map.get groups p)) k)) t))

  -- after a whole group was taken out
  group_case : (groups : map.FinMap R (map.FinMap nat_cmp X)) (q : K) (j : ℕ) (b : Bool) → map.get (or_empty (cond b None (map.get groups q))) j ≡ cond b None (value groups q j)
  group_case groups q j true = map.get-empty nat_cmp j
  group_case groups q j false = refl

  pub value_group : (groups : map.FinMap R (map.FinMap nat_cmp X)) (p q : K) (j : ℕ) → value (map.remove groups p) q j ≡ cond (eq_by_cmp R q p) None (value groups q j)
  value_group groups p q j = ap (λ m. map.get (or_empty m) j) (map.get-remove o groups p q) ∙ group_case groups q j (eq_by_cmp R q p)

module _ {K : Type 0} {R : K → K → Ordering} (o : IsTotalOrder R) (exact : map.IsAntisymmetric R) where
  itself : (p : K) → eq_by_cmp R p p ≡ true
  itself p = ap is_eq (tied_itself o p)

  pub here : (p : K) (k : ℕ) → (eq_by_cmp R p p && eq_by_cmp nat_cmp k k) ≡ true
  here p k = both _ _ (itself p) (ap is_eq (tied_itself nat_cmp_total k))

  pub here_group : (p : K) → eq_by_cmp R p p ≡ true
  here_group p = itself p

  pub elsewhere : (p q : K) (k j : ℕ) → ¬ ((q ≡ p) × (j ≡ k)) → ¬ ((eq_by_cmp R q p && eq_by_cmp nat_cmp j k) ≡ true)
  elsewhere p q k j n e = let t = both_true (eq_by_cmp R q p) (eq_by_cmp nat_cmp j k) e in n (tells_apart exact q p t.0, tells_apart map.nat_cmp-IsAntisymmetric j k t.1)

  pub elsewhere_group : (p q : K) → ¬ (q ≡ p) → ¬ (eq_by_cmp R q p ≡ true)
  elsewhere_group p q n e = n (tells_apart exact q p e)

-- ---- stores
abbrev ne : map.IsAntisymmetric nat_cmp
ne = map.nat_cmp-IsAntisymmetric

pub image_is_put : (p k : ℕ) (image : ImageModel) (s : StoreModel) → ImageIsPut p k image s
image_is_put p k image s = record {
  there = value_put nat_cmp_total ne s.images p k image p k ∙ cond_true _ (Some image) (image_at s p k) (here nat_cmp_total ne p k);
  beside = λ q j n. value_put nat_cmp_total ne s.images p k image q j ∙ cond_not _ (Some image) (image_at s q j) (elsewhere nat_cmp_total ne p q k j n);
}

pub image_is_gone : (p k : ℕ) (s : StoreModel) → ImageIsGone p k s
image_is_gone p k s = record {
  gone = value_taken nat_cmp_total ne s.images p k p k ∙ cond_true _ None (image_at s p k) (here nat_cmp_total ne p k);
  beside = λ q j n. value_taken nat_cmp_total ne s.images p k q j ∙ cond_not _ None (image_at s q j) (elsewhere nat_cmp_total ne p q k j n);
}

pub glyph_is_put : (p f g : ℕ) (mask : MaskModel) (s : StoreModel) → GlyphIsPut p f g mask s
glyph_is_put p f g mask s = record {
  there = value_put pair_cmp_total pair_cmp-IsAntisymmetric s.masks (p, f) g mask (p, f) g ∙ cond_true _ (Some mask) (glyph_at s p f g) (here pair_cmp_total pair_cmp-IsAntisymmetric (p, f) g);
  beside = λ q e j n. value_put pair_cmp_total pair_cmp-IsAntisymmetric s.masks (p, f) g mask (q, e) j
      ∙ cond_not _ (Some mask) (glyph_at s q e j) (elsewhere pair_cmp_total pair_cmp-IsAntisymmetric (p, f) (q, e) g j (λ t. n (ap (λ (x : ℕ × ℕ). x.0) t.0, ap (λ (x : ℕ × ℕ). x.1) t.0, t.1)));
}

pub font_is_gone : (p f : ℕ) (s : StoreModel) → FontIsGone p f s
font_is_gone p f s = record {
  gone = λ g. value_group pair_cmp_total pair_cmp-IsAntisymmetric s.masks (p, f) (p, f) g ∙ cond_true _ None (glyph_at s p f g) (here_group pair_cmp_total pair_cmp-IsAntisymmetric (p, f));
  beside = λ q e g n. value_group pair_cmp_total pair_cmp-IsAntisymmetric s.masks (p, f) (q, e) g
      ∙ cond_not _ None (glyph_at s q e g) (elsewhere_group pair_cmp_total pair_cmp-IsAntisymmetric (p, f) (q, e) (λ t. n (ap (λ (x : ℕ × ℕ). x.0) t, ap (λ (x : ℕ × ℕ). x.1) t)));
}
