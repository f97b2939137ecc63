-- What every store keeps.
use Rattle.std.proofs.Common.{◌≡◌, ◌≢◌, ℕ, Bool, true, false, eqb, cond, Some, None, if◌then◌else◌, sym, ap, refl, ◌∙◌}
use Rattle.std.specs.Option.{unwrap_or}
use Rattle.std.specs.Cmp.{IsTotalOrder, nat_cmp_total, tied_itself}
use Rattle.std.specs.declared.cmp.Ordering.{Ordering}
use Rattle.std.specs.Ordering.{nat_cmp, eq_by_cmp, is_eq}
use Rattle.std.specs.FinMap as map
use Rattle.containers.specs.PairOrder.{pair_cmp}
use Rattle.image_store.specs.Models.{ImageModel, MaskModel, IsImage, IsMask}
use Rattle.image_store.specs.StoreModel.{StoreModel, IsStore, Images, Masks, or_empty, put_group, with_image, without_image, with_glyph, without_font, empty_store, images_of, masks_of}
use Rattle.image_store.proofs.Keys.{whole_inserted, none_is_some}
use Rattle.image_store.proofs.PairOrderLaws.{pair_cmp_total}

false_is_true : {A : Type 0} → false ≡ true → A
false_is_true e = absurd (cc)

-- each value of a map of maps has a property, and none of them is empty
pub record AreWhole {K X : Type 0} {R : K → K → Ordering} (P : X → Type 0) (groups : map.FinMap R (map.FinMap nat_cmp X)) : Type 0 where
  pub each : (k : K) (q : ℕ) (x : X) → map.get (or_empty (map.get groups k)) q ≡ Some x → P x
  pub some : (k : K) → map.get groups k ≢ Some map.empty

module _ {K X : Type 0} {R : K → K → Ordering} (o : IsTotalOrder R) (P : X → Type 0) where
  pub whole_empty : AreWhole P (map.empty {X = map.FinMap nat_cmp X} {R = R})
  whole_empty = record {
    each = λ k q x h. none_is_some x (sym (map.get-empty nat_cmp q) ∙ ap (λ m. map.get (or_empty m) q) (sym (map.get-empty R k)) ∙ h);
    some = λ k h. none_is_some map.empty (sym (map.get-empty R k) ∙ h);
  }

  -- where a group is put at a key that ties with another, or not
  each_put : (groups : map.FinMap R (map.FinMap nat_cmp X)) (group : map.FinMap nat_cmp X) (k : K) (b : Bool) (q : ℕ) (x : X)
      → ((q : ℕ) (x : X) → map.get group q ≡ Some x → P x) → ((q : ℕ) (x : X) → map.get (or_empty (map.get groups k)) q ≡ Some x → P x)
      → map.get (or_empty (cond b (Some group) (map.get groups k))) q ≡ Some x → P x
  each_put groups group k true q x f g h = f q x h
  each_put groups group k false q x f g h = g q x h

  some_put : (groups : map.FinMap R (map.FinMap nat_cmp X)) (group : map.FinMap nat_cmp X) (k : K) (b : Bool) → group ≢ map.empty → map.get groups k ≢ Some map.empty → cond b (Some group) (map.get groups k) ≢ Some map.empty
  some_put groups group k true n m h = n (ap (λ o. unwrap_or o group) h)
  some_put groups group k false n m h = m h

  pub whole_put : (groups : map.FinMap R (map.FinMap nat_cmp X)) (group : map.FinMap nat_cmp X) (k : K) → AreWhole P groups → ((q : ℕ) (x : X) → map.get group q ≡ Some x → P x) → group ≢ map.empty → AreWhole P (map.insert groups k group)
  whole_put groups group k w f n = record {
    each = λ j q x h. each_put groups group j (eq_by_cmp R j k) q x f (w.each j) (ap (λ m. map.get (or_empty m) q) (sym (map.get-insert o groups k group j)) ∙ h);
    some = λ j h. some_put groups group j (eq_by_cmp R j k) n (w.some j) (sym (map.get-insert o groups k group j) ∙ h);
  }

  each_removed : (groups : map.FinMap R (map.FinMap nat_cmp X)) (k : K) (b : Bool) (q : ℕ) (x : X) → ((q : ℕ) (x : X) → map.get (or_empty (map.get groups k)) q ≡ Some x → P x) → map.get (or_empty (cond b None (map.get groups k))) q ≡ Some x → P x
  each_removed groups k true q x g h = none_is_some x (sym (map.get-empty nat_cmp q) ∙ h)
  each_removed groups k false q x g h = g q x h

  some_removed : (groups : map.FinMap R (map.FinMap nat_cmp X)) (k : K) (b : Bool) → map.get groups k ≢ Some map.empty → cond b None (map.get groups k) ≢ Some map.empty
  some_removed groups k true m h = none_is_some map.empty h
  some_removed groups k false m h = m h

  pub whole_removed : (groups : map.FinMap R (map.FinMap nat_cmp X)) (k : K) → AreWhole P groups → AreWhole P (map.remove groups k)
  whole_removed groups k w = record {
    each = λ j q x h. each_removed groups j (eq_by_cmp R j k) q x (w.each j) (ap (λ m. map.get (or_empty m) q) (sym (map.get-remove o groups k j)) ∙ h);
    some = λ j h. some_removed groups j (eq_by_cmp R j k) (w.some j) (sym (map.get-remove o groups k j) ∙ h);
  }

  zero_or_not : (groups : map.FinMap R (map.FinMap nat_cmp X)) (group : map.FinMap nat_cmp X) (k : K) (b : Bool) → eqb (map.len group) 0 ≡ b → AreWhole P groups → ((q : ℕ) (x : X) → map.get group q ≡ Some x → P x)
      → AreWhole P (if b then map.remove groups k else map.insert groups k group)
  zero_or_not groups group k true e w f = whole_removed groups k w
  zero_or_not groups group k false e w f = whole_put groups group k w f (λ h. let z : map.len group ≡ 0 = ap map.len h ∙ map.len-empty nat_cmp X in let t : eqb (map.len group) 0 ≡ true = ap (λ n. eqb n 0) z in false_is_true (sym e ∙ t))

  pub whole_group : (groups : map.FinMap R (map.FinMap nat_cmp X)) (group : map.FinMap nat_cmp X) (k : K) → AreWhole P groups → ((q : ℕ) (x : X) → map.get group q ≡ Some x → P x) → AreWhole P (put_group groups k group)
  whole_group groups group k w f = zero_or_not groups group k (eqb (map.len group) 0) refl w f

-- a map with something put into it isn't empty
inserted_some : {X : Type 0} (m : map.FinMap nat_cmp X) (k : ℕ) (x : X) → map.insert m k x ≢ map.empty
inserted_some m k x h =
    none_is_some x (sym (map.get-empty nat_cmp k) ∙ ap (λ n. map.get n k) (sym h) ∙ map.get-insert nat_cmp_total m k x k ∙ ap (λ r. cond (is_eq r) (Some x) (map.get m k)) (tied_itself nat_cmp_total k))

from_removed : {X : Type 0} (m : map.FinMap nat_cmp X) (b : Bool) (q : ℕ) (x : X) → cond b None (map.get m q) ≡ Some x → map.get m q ≡ Some x
from_removed m true q x e = none_is_some x e
from_removed m false q x e = e

removed_whole : {X : Type 0} (P : X → Type 0) (m : map.FinMap nat_cmp X) (k q : ℕ) (x : X) → ((q : ℕ) (x : X) → map.get m q ≡ Some x → P x) → map.get (map.remove m k) q ≡ Some x → P x
removed_whole P m k q x f h = f q x (from_removed m (eq_by_cmp nat_cmp q k) q x (sym (map.get-remove nat_cmp_total m k q) ∙ h))

-- ---- stores
pub images_whole : (s : StoreModel) → IsStore s → AreWhole IsImage s.images
images_whole s i = record { each = i.images; some = i.some_images }

pub masks_whole : (s : StoreModel) → IsStore s → AreWhole IsMask s.masks
masks_whole s i = record { each = λ k q m h. i.masks k.0 k.1 q m h; some = λ k h. i.some_masks k.0 k.1 h }

pub store_of : (s : StoreModel) → AreWhole IsImage s.images → AreWhole IsMask s.masks → IsStore s
store_of s i m = record { images = i.each; masks = λ p f g mask h. m.each (p, f) g mask h; some_images = i.some; some_masks = λ p f h. m.some (p, f) h }

pub same_store : (i i' : map.FinMap nat_cmp Images) (m m' : map.FinMap pair_cmp Masks) → i ≡ i' → m ≡ m' → ◌≡◌ {A = StoreModel} (record { images = i; masks = m }) (record { images = i'; masks = m' })
same_store i i' m m' e f = λ j. record { images = e j; masks = f j }

pub same_pair : (a a' b b' : ℕ) → a ≡ a' → b ≡ b' → ◌≡◌ {A = ℕ × ℕ} (a, b) (a', b')
same_pair a a' b b' e f = λ j. (e j, f j)

pub empty_is_store : IsStore empty_store
empty_is_store = store_of empty_store (whole_empty nat_cmp_total IsImage) (whole_empty pair_cmp_total IsMask)

pub with_image_is_store : (s : StoreModel) (p k : ℕ) (image : ImageModel) → IsStore s → IsImage image → IsStore (with_image p k image s)
with_image_is_store s p k image i w =
    store_of (with_image p k image s)
    (whole_put nat_cmp_total IsImage s.images (map.insert (images_of s p) k image) p (images_whole s i) (λ q x h. whole_inserted ImageModel IsImage (images_of s p) k q image x (i.images p) w h) (inserted_some (images_of s p) k image))
    (masks_whole s i)

pub without_image_is_store : (s : StoreModel) (p k : ℕ) → IsStore s → IsStore (without_image p k s)
without_image_is_store s p k i =
    store_of (without_image p k s)
    (whole_group nat_cmp_total IsImage s.images (map.remove (images_of s p) k) p (images_whole s i) (λ q x h. removed_whole IsImage (images_of s p) k q x (i.images p) h))
    (masks_whole s i)

pub with_glyph_is_store : (s : StoreModel) (p f g : ℕ) (mask : MaskModel) → IsStore s → IsMask mask → IsStore (with_glyph p f g mask s)
with_glyph_is_store s p f g mask i w =
    store_of (with_glyph p f g mask s) (images_whole s i)
    (whole_put pair_cmp_total IsMask s.masks (map.insert (masks_of s p f) g mask) (p, f) (masks_whole s i) (λ q x h. whole_inserted MaskModel IsMask (masks_of s p f) g q mask x (i.masks p f) w h) (inserted_some (masks_of s p f) g mask))

pub without_font_is_store : (s : StoreModel) (p f : ℕ) → IsStore s → IsStore (without_font p f s)
without_font_is_store s p f i = store_of (without_font p f s) (images_whole s i) (whole_removed pair_cmp_total IsMask s.masks (p, f) (masks_whole s i))
