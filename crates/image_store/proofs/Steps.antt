-- What a change brings, and its generation.
use Rattle.std.proofs.Common.{◌≡◌, ◌⊎◌, inl, inr, ℕ, ◌+◌, ◌-◌, ◌^◌, ◌≤◌, Bool, true, false, ◌&&◌, cond, eqb, Option, Some, None, List, Result, Ok, Err, if◌then◌else◌, ltb, subst, sym, ap, refl, ◌∙◌, arith}
use Rattle.std.specs.Cmp.{nat_cmp_total}
use Rattle.std.specs.Option.{unwrap_or}
use Rattle.std.specs.Ordering.{nat_cmp, eq_by_cmp}
use Rattle.std.specs.FinMap as map
use Rattle.containers.specs.PairOrder.{pair_cmp}
use Rattle.blend_rules.specs.Pixels.{pixels}
use Rattle.image_store.specs.Generations.{generation_after}
use Rattle.image_store.specs.Models.{ImageModel, MaskModel}
use Rattle.image_store.specs.Patches.{patched}
use Rattle.image_store.specs.StoreModel.{StoreModel, image_at, glyph_at, with_image, without_image, with_glyph, without_font}
use Rattle.image_store.specs.Changes.{image_added, image_updated, image_deleted, glyph_added, first_bad, where_given, where_stored, where_inside, where_sound, image_put, image_of, updated_image}
use Rattle.image_store.specs.Laws.{IsStep, IsNextStep, IsUpTo}
use Rattle.image_store.specs.declared.error.StoreError.{StoreError}
use Rattle.image_store.specs.declared.patch.Patch.{Patch}
use Rattle.image_store.proofs.LookupLaws.{value_put, value_taken, value_group}
use Rattle.image_store.proofs.PairOrderLaws.{pair_cmp_total, pair_cmp-IsAntisymmetric}

same_some : {A : Type 0} (x y : A) → Some x ≡ Some y → x ≡ y
same_some x y e = ap (λ o. unwrap_or o x) e

either_put : {A : Type 0} (generation_of : A → ℕ) (b : Bool) (x y : A) (old : Option A) → cond b (Some x) old ≡ Some y → (old ≡ Some y) ⊎ (generation_of y ≡ generation_of x)
either_put f true x y old e = inr (ap f (sym (same_some x y e)))
either_put f false x y old e = inl e

either_gone : {A B : Type 0} (b : Bool) (y : A) (old : Option A) → cond b None old ≡ Some y → (old ≡ Some y) ⊎ B
either_gone true y old e = absurd (cc)
either_gone false y old e = inl e

image_step : (p k : ℕ) (image : ImageModel) (s : StoreModel) → IsStep s (with_image p k image s) image.generation
image_step p k image s = record {
  images = λ q j i h. either_put (λ (m : ImageModel). m.generation) (eq_by_cmp nat_cmp q p && eq_by_cmp nat_cmp j k) image i (image_at s q j) (sym (value_put nat_cmp_total map.nat_cmp-IsAntisymmetric s.images p k image q j) ∙ h);
  masks = λ q f g m h. inl h;
}

glyph_step : (p f g : ℕ) (mask : MaskModel) (s : StoreModel) → IsStep s (with_glyph p f g mask s) mask.generation
glyph_step p f g mask s = record {
  images = λ q j i h. inl h;
  masks = λ q e j m h. either_put (λ (n : MaskModel). n.generation) (eq_by_cmp pair_cmp (q, e) (p, f) && eq_by_cmp nat_cmp j g) mask m (glyph_at s q e j) (sym (value_put pair_cmp_total pair_cmp-IsAntisymmetric s.masks (p, f) g mask (q, e) j) ∙ h);
}

-- ---- through the checks
given : (last : ℕ) (b : Bool) {Y : Type 0} (follows : ℕ → Result Y StoreError) (y : Y) → where_given (if b then None else Some (last + 1)) follows ≡ Ok y → follows (last + 1) ≡ Ok y
given last true follows y e = absurd (cc)
given last false follows y e = e

next_of : (last : ℕ) {Y : Type 0} (follows : ℕ → Result Y StoreError) (y : Y) → where_given (generation_after last) follows ≡ Ok y → follows (last + 1) ≡ Ok y
next_of last follows y e = given last (eqb last (2 ^ 64 - 1)) follows y e

abbrev ok_or : {A E : Type 0} → A → Result A E → A
ok_or x (Ok y) = y
ok_or x (Err e) = x

same_ok : {A E : Type 0} (x y : A) → ◌≡◌ {A = Result A E} (Ok x) (Ok y) → x ≡ y
same_ok x y e = ap (ok_or x) e

put_step : (p k : ℕ) (old new : StoreModel) (generation g : ℕ) (bad : Option ℕ) (image : ImageModel) → image.generation ≡ g → image_put p k old g (where_sound bad image) ≡ Ok (new, generation) → (generation ≡ g) × IsStep old new g
put_step p k old new generation g (Some i) image e h = absurd (cc)
put_step p k old new generation g None image e h =
    let pair = same_ok (with_image p k image old, g) (new, generation) h in
    (sym (ap (λ (x : StoreModel × ℕ). x.1) pair), subst (λ s. IsStep old s g) (ap (λ (x : StoreModel × ℕ). x.0) pair) (subst (IsStep old (with_image p k image old)) e (image_step p k image old)))

next_step : (p k : ℕ) (old new : StoreModel) (last generation : ℕ) (bad : Option ℕ) (image : ImageModel) → image.generation ≡ last + 1 → image_put p k old (last + 1) (where_sound bad image) ≡ Ok (new, generation) → IsNextStep old new last generation
next_step p k old new last generation bad image e h =
    let s = put_step p k old new generation (last + 1) bad image e h in
    record { next = s.0; step = subst (IsStep old new) (sym s.0) s.1 }

pub adding_is_a_step : (p k w h : ℕ) (bytes : List ℕ) (old new : StoreModel) (last generation : ℕ) → image_added p k w h bytes old last ≡ Ok (new, generation) → IsNextStep old new last generation
adding_is_a_step p k w h bytes old new last generation e =
    let f = next_of last (λ g. image_put p k old g (image_of w h g (pixels bytes))) (new, generation) e in
    next_step p k old new last generation (first_bad (pixels bytes)) (record { w = w; h = h; generation = last + 1; texels = pixels bytes }) refl f

inside : {Y : Type 0} (a b : Bool) (x y : StoreError) (follows : Result Y StoreError) (v : Y) → (if a then Err x else if b then Err y else follows) ≡ Ok v → follows ≡ Ok v
inside true b x y follows v e = absurd (cc)
inside false true x y follows v e = absurd (cc)
inside false false x y follows v e = e

updating : (p k : ℕ) (patch : Patch) (bytes : List ℕ) (old new : StoreModel) (last generation : ℕ) (found : Option ImageModel)
    → where_stored found (λ image. where_inside image patch (where_given (generation_after last) (λ g. image_put p k old g (updated_image g patch (pixels bytes) image)))) ≡ Ok (new, generation) → IsNextStep old new last generation
updating p k patch bytes old new last generation None e = absurd (cc)
updating p k patch bytes old new last generation (Some image) e =
    let i = inside (ltb image.w (patch.x + patch.w)) (ltb image.h (patch.y + patch.h)) _ _ (where_given (generation_after last) (λ g. image_put p k old g (updated_image g patch (pixels bytes) image))) (new, generation) e in
    let f = next_of last (λ g. image_put p k old g (updated_image g patch (pixels bytes) image)) (new, generation) i in
    next_step p k old new last generation (first_bad (pixels bytes)) (record (patched patch (pixels bytes) image) { generation = last + 1 }) refl f

pub updating_is_a_step : (p k : ℕ) (patch : Patch) (bytes : List ℕ) (old new : StoreModel) (last generation : ℕ) → image_updated p k patch bytes old last ≡ Ok (new, generation) → IsNextStep old new last generation
updating_is_a_step p k patch bytes old new last generation e = updating p k patch bytes old new last generation (image_at old p k) e

pub adding_glyph_is_a_step : (p f g w h : ℕ) (bytes : List ℕ) (old new : StoreModel) (last generation : ℕ) → glyph_added p f g w h bytes old last ≡ Ok (new, generation) → IsNextStep old new last generation
adding_glyph_is_a_step p f g w h bytes old new last generation e =
    let mask : ℕ → MaskModel = λ n. record { w = w; h = h; generation = n; bytes = bytes } in
    let o = next_of last (λ n. Ok (with_glyph p f g (mask n) old, n)) (new, generation) e in
    let pair = same_ok (with_glyph p f g (mask (last + 1)) old, last + 1) (new, generation) o in
    let n : generation ≡ last + 1 = sym (ap (λ (x : StoreModel × ℕ). x.1) pair) in
    record { next = n; step = subst (IsStep old new) (sym n) (subst (λ s. IsStep old s (last + 1)) (ap (λ (x : StoreModel × ℕ). x.0) pair) (glyph_step p f g (mask (last + 1)) old)) }

gone_step : (p k : ℕ) (s : StoreModel) (generation : ℕ) → IsStep s (without_image p k s) generation
gone_step p k s generation = record {
  images = λ q j i h. either_gone (eq_by_cmp nat_cmp q p && eq_by_cmp nat_cmp j k) i (image_at s q j) (sym (value_taken nat_cmp_total map.nat_cmp-IsAntisymmetric s.images p k q j) ∙ h);
  masks = λ q f g m h. inl h;
}

deleting : (p k : ℕ) (old new : StoreModel) (generation : ℕ) (found : Option ImageModel) → where_stored found (λ image. Ok (without_image p k old)) ≡ Ok new → IsStep old new generation
deleting p k old new generation None e = absurd (cc)
deleting p k old new generation (Some image) e = subst (λ s. IsStep old s generation) (same_ok (without_image p k old) new e) (gone_step p k old generation)

pub deleting_is_a_step : (p k : ℕ) (old new : StoreModel) (generation : ℕ) → image_deleted p k old ≡ Ok new → IsStep old new generation
deleting_is_a_step p k old new generation e = deleting p k old new generation (image_at old p k) e

pub deleting_font_is_a_step : (p f : ℕ) (old : StoreModel) (generation : ℕ) → IsStep old (without_font p f old) generation
deleting_font_is_a_step p f old generation = record {
  images = λ q j i h. inl h;
  masks = λ q e j m h. either_gone (eq_by_cmp pair_cmp (q, e) (p, f)) m (glyph_at old q e j) (sym (value_group pair_cmp_total pair_cmp-IsAntisymmetric old.masks (p, f) (q, e) j) ∙ h);
}

bound : (g last generation : ℕ) {P : Type 0} → (P → g ≤ last) → last ≤ generation → P ⊎ (g ≡ generation) → g ≤ generation
bound g last generation f l (inl p) = let b = f p in omega arith
bound g last generation f l (inr e) = omega arith

pub steps_keep_bound : (old new : StoreModel) (last generation : ℕ) → IsUpTo last old → IsStep old new generation → last ≤ generation → IsUpTo generation new
steps_keep_bound old new last generation u s l = record {
  images = λ p k i h. bound i.generation last generation (u.images p k i) l (s.images p k i h);
  masks = λ p f g m h. bound m.generation last generation (u.masks p f g m) l (s.masks p f g m h);
}
