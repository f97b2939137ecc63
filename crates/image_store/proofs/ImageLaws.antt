-- Patched images by texel, and the first colour that is bad.
use Rattle.std.proofs.Common.{◌≡◌, ℕ, zero, suc, ◌+◌, ◌-◌, ◌*◌, ◌/◌, ◌%◌, ◌<◌, ◌≤◌, Bool, true, false, Some, None, List, [], ◌∷◌, if◌then◌else◌, length, subst, ap, ◌∙◌, sym, refl, arith}
use Rattle.std.specs.Option.{unwrap_or}
use Rattle.std.proofs.lemmas.Nat.{mul-le, mod-mul-add, div-mul-add}
use Rattle.blend_rules.specs.declared.colour.Px.{Px}
use Rattle.blend_rules.specs.Colour.{IsPremultiplied, is_premultiplied}
use Rattle.blend_rules.specs.Pixels.{nth_pixel, ArePremultiplied}
use Rattle.image_store.specs.Models.{ImageModel, texel_of}
use Rattle.image_store.specs.Patches.{patched, patched_texel}
use Rattle.image_store.specs.Changes.{bad_from, first_bad}
use Rattle.image_store.specs.Laws.{IsFirstBad}
use Rattle.image_store.specs.declared.patch.Patch.{Patch}
use Rattle.image_store.proofs.Lists.{listed_at}
use Rattle.image_store.proofs.Checking.{premultiplied_is}

pub patched_by_texel : (patch : Patch) (new : List Px) (old : ImageModel) (x y : ℕ) → x < old.w → y < old.h → texel_of (patched patch new old) x y ≡ patched_texel patch new old x y
patched_by_texel patch new old x y a b =
    let m = mul-le (y + 1) old.w old.h old.w (omega arith) (omega arith) in let n : (y + 1) * old.w ≡ y * old.w + old.w = omega arith in
    listed_at (old.h * old.w) (λ i. patched_texel patch new old (i % old.w) (i / old.w)) (y * old.w + x) (omega arith)
    ∙ ap (λ c. patched_texel patch new old c ((y * old.w + x) / old.w)) (mod-mul-add y old.w x a)
    ∙ ap (patched_texel patch new old x) (div-mul-add y old.w x a)

-- ---- the first colour that is bad
not_premultiplied : (p : Px) → is_premultiplied p ≡ false → ¬ (IsPremultiplied p)
unfolding is_premultiplied
not_premultiplied p e h = let b = h.blue in let g = h.green in let r = h.red in absurd (grind arith)

-- of the colours from one on, where that has a number
pub record IsBadFrom (n : ℕ) (texels : List Px) (i : ℕ) : Type 0 where
  pub above : n ≤ i
  pub within : i < n + length texels
  pub bad : ¬ (IsPremultiplied (nth_pixel texels (i - n)))
  pub before : (k : ℕ) → n + k < i → IsPremultiplied (nth_pixel texels k)

same_some : (x y : ℕ) → Some x ≡ Some y → x ≡ y
same_some x y e = ap (λ o. unwrap_or o x) e

before_in : (n i : ℕ) (p : Px) (ps : List Px) → is_premultiplied p ≡ true → ((k : ℕ) → n + 1 + k < i → IsPremultiplied (nth_pixel ps k)) → (k : ℕ) → n + k < i → IsPremultiplied (nth_pixel (p ∷ ps) k)
before_in n i p ps e f zero l = premultiplied_is p e
before_in n i p ps e f (suc k) l = f k (omega arith)

bad_in : (n i : ℕ) (p : Px) (ps : List Px) (t : Bool) → is_premultiplied p ≡ t → (bad_from (n + 1) ps ≡ Some i → IsBadFrom (n + 1) ps i) → (if t then bad_from (n + 1) ps else Some n) ≡ Some i → IsBadFrom n (p ∷ ps) i
bad_in n i p ps true e f h =
    let r = f h in
    let a = r.above in let w = r.within in
    let s : suc (i - (n + 1)) ≡ i - n = omega arith in
    record {
      above = omega arith;
      within = omega arith;
      bad = λ q. r.bad (subst (λ k. IsPremultiplied (nth_pixel (p ∷ ps) k)) (sym s) q);
      before = before_in n i p ps e r.before;
    }
bad_in n i p ps false e f h =
    let s : n ≡ i = same_some n i h in
    let z : i - n ≡ 0 = omega arith in
    record {
      above = omega arith;
      within = omega arith;
      bad = λ q. not_premultiplied p e (subst (λ k. IsPremultiplied (nth_pixel (p ∷ ps) k)) z q);
      before = λ k l. absurd (omega arith);
    }

pub first_is_first : (n i : ℕ) (texels : List Px) → bad_from n texels ≡ Some i → IsBadFrom n texels i
first_is_first n i [] h = absurd (cc)
first_is_first n i (p ∷ ps) h = bad_in n i p ps (is_premultiplied p) refl (first_is_first (n + 1) i ps) h

pub first_bad_is_first : (texels : List Px) (i : ℕ) → first_bad texels ≡ Some i → IsFirstBad texels i
first_bad_is_first texels i h = let r = first_is_first 0 i texels h in record { within = let w = r.within in omega arith; bad = (let z : i - 0 ≡ i = omega arith in λ q. r.bad (subst (λ k. IsPremultiplied (nth_pixel texels k)) (sym z) q)); before = λ k l. r.before k (omega arith) }

sound_in : (n : ℕ) (p : Px) (ps : List Px) (t : Bool) → is_premultiplied p ≡ t → (bad_from (n + 1) ps ≡ None → ArePremultiplied ps) → (if t then bad_from (n + 1) ps else Some n) ≡ None → ArePremultiplied (p ∷ ps)
sound_in n p ps true e f h zero l = premultiplied_is p e
sound_in n p ps true e f h (suc i) l = f h i (omega arith)
sound_in n p ps false e f h i l = absurd (cc)

none_from : (n : ℕ) (texels : List Px) → bad_from n texels ≡ None → ArePremultiplied texels
none_from n [] h i l = absurd (omega arith)
none_from n (p ∷ ps) h i l = sound_in n p ps (is_premultiplied p) refl (none_from (n + 1) ps) h i l

pub none_is_bad : (texels : List Px) → first_bad texels ≡ None → ArePremultiplied texels
none_is_bad texels h = none_from 0 texels h
