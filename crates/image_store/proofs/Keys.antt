-- Images without those of some keys.
use Rattle.std.proofs.Common.{◌≡◌, ℕ, ◌+◌, ◌≤◌, Bool, true, false, ◌||◌, cond, eqb, Some, None, List, [], ◌∷◌, ◌++◌, length, subst, sym, ap, refl, ◌∙◌, arith}
use Rattle.std.proofs.lemmas.Bool.{eqb-true, eq-eqb}
use Rattle.std.proofs.lemmas.Map.Views.{tells_apart}
use Rattle.std.specs.List.{list_any}
use Rattle.std.specs.Option.{unwrap_or}
use Rattle.std.specs.Cmp.{nat_cmp_total, tied_itself}
use Rattle.std.specs.Ordering.{nat_cmp, eq_by_cmp, is_eq}
use Rattle.std.specs.FinMap as map
use Rattle.image_store.specs.Models.{ImageModel, MaskModel, IsImage, IsMask, image_area, mask_area}
use Rattle.image_store.specs.Keyed.{without_keys, AreKeyed, AreKeyedMasks}
use Rattle.image_store.specs.StoreModel.{Images, Masks, sum_of}
use Rattle.image_store.proofs.Sums.{sum-empty, len-removed}

swapped : {A : Type 0} (b c : Bool) (n x : A) → cond b n (cond c n x) ≡ cond c n (cond b n x)
swapped true true n x = refl
swapped true false n x = refl
swapped false c n x = refl

remove_swap : (m : Images) (a b : ℕ) → map.remove (map.remove m a) b ≡ map.remove (map.remove m b) a
remove_swap m a b = map.same_map nat_cmp_total map.nat_cmp-IsAntisymmetric _ _ (λ q.
    map.get-remove nat_cmp_total (map.remove m a) b q ∙ ap (cond (eq_by_cmp nat_cmp q b) None) (map.get-remove nat_cmp_total m a q)
    ∙ swapped (eq_by_cmp nat_cmp q b) (eq_by_cmp nat_cmp q a) None (map.get m q)
    ∙ sym (map.get-remove nat_cmp_total (map.remove m b) a q ∙ ap (cond (eq_by_cmp nat_cmp q a) None) (map.get-remove nat_cmp_total m b q)))

-- a key taken out below
pub without_removed : (m : Images) (keys : List ℕ) (k : ℕ) → without_keys (map.remove m k) keys ≡ map.remove (without_keys m keys) k
without_removed m [] k = refl
without_removed m (x ∷ xs) k = ap (λ n. without_keys n xs) (remove_swap m k x) ∙ without_removed (map.remove m x) xs k

-- a key more
pub without_pushed : (m : Images) (keys : List ℕ) (k : ℕ) → without_keys m (keys ++ k ∷ []) ≡ map.remove (without_keys m keys) k
without_pushed m [] k = refl
without_pushed m (x ∷ xs) k = without_pushed (map.remove m x) xs k

-- ---- what is left
same_test : (k x : ℕ) → eq_by_cmp nat_cmp k x ≡ eqb x k
same_test k x = elim (eqb x k) as (λ b. eqb x k ≡ b → eq_by_cmp nat_cmp k x ≡ b) [
  | true ↦ λ e. let same : x ≡ k = search (eqb-true x k) in ap (λ n. eq_by_cmp nat_cmp k n) same ∙ ap is_eq (tied_itself nat_cmp_total k)
  | false ↦ λ e. elim (eq_by_cmp nat_cmp k x) as (λ b. eq_by_cmp nat_cmp k x ≡ b → b ≡ false) [
    | true ↦ λ t. absurd (let same : x ≡ k = sym (tells_apart map.nat_cmp-IsAntisymmetric k x t) in let f : eqb x k ≡ true = search (eq-eqb x k same) in cc)
    | false ↦ λ t. refl
  ] refl
] refl

either : {A : Type 0} (a b : Bool) (n x : A) → cond b n (cond a n x) ≡ cond (a || b) n x
either true true n x = refl
either true false n x = refl
either false b n x = refl

pub get_without : (m : Images) (keys : List ℕ) (k : ℕ) → map.get (without_keys m keys) k ≡ cond (list_any (λ y. eqb y k) keys) None (map.get m k)
get_without m [] k = refl
get_without m (x ∷ xs) k =
    get_without (map.remove m x) xs k
    ∙ ap (cond (list_any (λ y. eqb y k) xs) None) (map.get-remove nat_cmp_total m x k ∙ ap (λ b. cond b None (map.get m k)) (same_test k x))
    ∙ either (eqb x k) (list_any (λ y. eqb y k) xs) None (map.get m k)

-- ---- what is kept with them
pub none_is_some : {A : Type 0} (x : A) {B : Type 0} → None ≡ Some x → B
none_is_some x e = absurd (cc)

keyed_none : (capacity : ℕ) → AreKeyed map.empty [] capacity 0 0
keyed_none capacity = record {
  whole = λ k i h. none_is_some i (sym (map.get-empty nat_cmp k) ∙ h);
  number = sym (map.len-empty nat_cmp ImageModel);
  pixels = sym (sum-empty nat_cmp nat_cmp_total image_area map.nat_cmp-IsAntisymmetric);
  room = omega arith;
}

pub keyed_empty : (images : Images) (gone : List ℕ) (capacity : ℕ) → images ≡ map.empty → gone ≡ [] → AreKeyed images gone capacity 0 0
keyed_empty images gone capacity e g = subst (λ m. AreKeyed m gone capacity 0 0) (sym e) (subst (λ l. AreKeyed map.empty l capacity 0 0) (sym g) (keyed_none capacity))

more_room : (images : Images) (gone : List ℕ) (capacity more count area : ℕ) → AreKeyed images gone capacity count area → capacity ≤ more → AreKeyed images gone more count area
more_room images gone capacity more count area k h = record { whole = k.whole; number = k.number; pixels = k.pixels; room = let r = k.room in omega arith }

pub keyed_kept : (images images' : Images) (gone gone' : List ℕ) (capacity more count area : ℕ) → AreKeyed images gone capacity count area → images' ≡ images → gone' ≡ gone → capacity ≤ more → AreKeyed images' gone' more count area
keyed_kept images images' gone gone' capacity more count area k e g h =
    subst (λ m. AreKeyed m gone' more count area) (sym e) (subst (λ l. AreKeyed images l more count area) (sym g) (more_room images gone capacity more count area k h))

-- another value, of which all that is kept is known
whole_removed : (m : Images) (k q : ℕ) (i : ImageModel) → ((q : ℕ) (i : ImageModel) → map.get m q ≡ Some i → IsImage i) → map.get (map.remove m k) q ≡ Some i → IsImage i
whole_removed m k q i f h = f q i (elim (eq_by_cmp nat_cmp q k) as (λ b. cond b None (map.get m q) ≡ Some i → map.get m q ≡ Some i) [ true ↦ λ e. none_is_some i e | false ↦ λ e. e ] (sym (map.get-remove nat_cmp_total m k q) ∙ h))

same_some : {A : Type 0} (x i : A) → Some x ≡ Some i → x ≡ i
same_some x i e = ap (λ o. unwrap_or o x) e

put_in : (A : Type 0) (P : A → Type 0) (x i : A) → P x → Some x ≡ Some i → P i
put_in A P x i p e = subst P (same_some x i e) p

pub whole_inserted : (X : Type 0) (P : X → Type 0) (m : map.FinMap nat_cmp X) (k q : ℕ) (x i : X) → ((q : ℕ) (i : X) → map.get m q ≡ Some i → P i) → P x → map.get (map.insert m k x) q ≡ Some i → P i
whole_inserted X P m k q x i f p h = elim (eq_by_cmp nat_cmp q k) as (λ b. cond b (Some x) (map.get m q) ≡ Some i → P i) [ true ↦ λ e. put_in X P x i p e | false ↦ λ e. f q i e ] (sym (map.get-insert nat_cmp_total m k x q) ∙ h)

-- after a key was taken out
pub keyed_removed : (images images' : Images) (gone gone' : List ℕ) (capacity capacity' count area count' area' k : ℕ) (i : ImageModel) → AreKeyed images gone capacity count area
    → map.get (without_keys images gone) k ≡ Some i → without_keys images' gone' ≡ map.remove (without_keys images gone) k → length gone' ≤ length gone + 1 → capacity' ≡ capacity
    → count' ≡ map.len (map.remove (without_keys images gone) k) → area' ≡ sum_of image_area (map.remove (without_keys images gone) k) → AreKeyed images' gone' capacity' count' area'
keyed_removed images images' gone gone' capacity capacity' count area count' area' k i old h v l r n p = record {
  whole = λ q j g. whole_removed (without_keys images gone) k q j old.whole (ap (λ m. map.get m q) (sym v) ∙ g);
  number = n ∙ ap map.len (sym v);
  pixels = p ∙ ap (sum_of image_area) (sym v);
  room = let o = old.room in let c = old.number in let s = len-removed nat_cmp nat_cmp_total image_area map.nat_cmp-IsAntisymmetric (without_keys images gone) k i h in omega arith;
}

-- after all keys that are gone were taken out
pub keyed_settled : (images images' : Images) (gone gone' : List ℕ) (capacity capacity' count area : ℕ) → AreKeyed images gone capacity count area
    → images' ≡ without_keys images gone → gone' ≡ [] → capacity ≤ capacity' → AreKeyed images' gone' capacity' count area
keyed_settled images images' gone gone' capacity capacity' count area old v g r =
    subst (λ m. AreKeyed m gone' capacity' count area) (sym v) (subst (λ l. AreKeyed (without_keys images gone) l capacity' count area) (sym g) (record {
      whole = old.whole;
      number = old.number;
      pixels = old.pixels;
      room = let o = old.room in omega arith;
    }))

-- after one was put at a key
pub keyed_inserted : (images images' : Images) (gone gone' : List ℕ) (capacity capacity' count area count' area' k : ℕ) (i : ImageModel) → AreKeyed images gone capacity count area
    → images' ≡ map.insert (without_keys images gone) k i → gone' ≡ [] → count' ≤ capacity' → IsImage i
    → count' ≡ map.len (map.insert (without_keys images gone) k i) → area' ≡ sum_of image_area (map.insert (without_keys images gone) k i) → AreKeyed images' gone' capacity' count' area'
keyed_inserted images images' gone gone' capacity capacity' count area count' area' k i old v g r w n p =
    subst (λ m. AreKeyed m gone' capacity' count' area') (sym v) (subst (λ l. AreKeyed (map.insert (without_keys images gone) k i) l capacity' count' area') (sym g) (record {
      whole = λ q j h. whole_inserted ImageModel IsImage (without_keys images gone) k q i j old.whole w h;
      number = n;
      pixels = p;
      room = omega arith;
    }))

-- ---- masks
pub masks_empty : (masks : Masks) → masks ≡ map.empty → AreKeyedMasks masks 0
masks_empty masks e = subst (λ m. AreKeyedMasks m 0) (sym e) (record {
  whole = λ k i h. none_is_some i (sym (map.get-empty nat_cmp k) ∙ h);
  pixels = sym (sum-empty nat_cmp nat_cmp_total mask_area map.nat_cmp-IsAntisymmetric);
})

pub masks_inserted : (masks masks' : Masks) (area area' k : ℕ) (i : MaskModel) → AreKeyedMasks masks area → masks' ≡ map.insert masks k i → IsMask i → area' ≡ sum_of mask_area (map.insert masks k i) → AreKeyedMasks masks' area'
masks_inserted masks masks' area area' k i old v w p = subst (λ m. AreKeyedMasks m area') (sym v) (record {
  whole = λ q j h. whole_inserted MaskModel IsMask masks k q i j old.whole w h;
  pixels = p;
})
