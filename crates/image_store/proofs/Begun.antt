-- Bands out of bytes, one after another.
use Rattle.std.proofs.Common.{◌≡◌, ℕ, suc, ◌+◌, ◌-◌, ◌*◌, ◌/◌, ◌<◌, ◌≤◌, min, inl, inr, Option, Some, None, List, [], ◌∷◌, ◌++◌, length, take, drop, get_or, append_assoc, subst, ap, ◌∙◌, sym, refl, arith}
use Rattle.std.specs.declared.rc.Rc.{Rc}
use Rattle.std.proofs.lemmas.Bool.{cases_lt}
use Rattle.std.proofs.lemmas.Nat.{mul-le}
use Rattle.std.proofs.lemmas.List.{map-append, length-append, length-take-le, length-drop, take-append-drop, append-nil, get_or_append_left, get_or-append_right, get_or_push, get_or_past, length_push}
use Rattle.blend_rules.specs.declared.colour.Px.{Px}
use Rattle.blend_rules.specs.Colour.{clear, colour_from}
use Rattle.blend_rules.specs.Pixels.{pixels}
use Rattle.image_store.specs.Bands.{AreImageBands, HasPixels, band_at, joined, tested, values}
use Rattle.image_store.specs.Changes.{bad_from, first_bad}
use Rattle.image_store.specs.Models.{IsSide}
use Rattle.image_store.specs.Outcome.{Refuses}
use Rattle.image_store.specs.declared.error.StoreError.{StoreError}
use Rattle.image_store.specs.declared.error.StoreError.TheVariants as errors
use Rattle.image_store.proofs.Lists.{length-pixels, listed_at, same_texels}
use Rattle.image_store.proofs.Bands.{same_px}
use Rattle.image_store.proofs.Banding.{times_suc}
use Rattle.image_store.proofs.Checking.{none_sound, bad_append_none, bad_append_some}

module _ (xs ys : List ℕ) (m : ℕ) (long : length xs ≡ 4 * m) where
  byte_left : (i : ℕ) → i < 4 * m → get_or (xs ++ ys) i 0 ≡ get_or xs i 0
  byte_left i h = get_or_append_left xs ys 0 i (omega arith)

  px_left : (i : ℕ) → i < m → colour_from (xs ++ ys) (4 * i) ≡ colour_from xs (4 * i)
  px_left i h = same_px _ _ _ _ _ _ _ _ (byte_left (4 * i) (omega arith)) (byte_left (4 * i + 1) (omega arith)) (byte_left (4 * i + 2) (omega arith)) (byte_left (4 * i + 3) (omega arith))

  byte_right : (i j : ℕ) → i ≡ 4 * m + j → get_or (xs ++ ys) i 0 ≡ get_or ys j 0
  byte_right i j e = get_or-append_right xs ys (4 * m) i 0 long (omega arith) ∙ ap (λ n. get_or ys n 0) (omega arith)

  px_right : (i : ℕ) → m ≤ i → colour_from (xs ++ ys) (4 * i) ≡ colour_from ys (4 * (i - m))
  px_right i h = same_px _ _ _ _ _ _ _ _ (byte_right (4 * i) (4 * (i - m)) (omega arith)) (byte_right (4 * i + 1) (4 * (i - m) + 1) (omega arith)) (byte_right (4 * i + 2) (4 * (i - m) + 2) (omega arith)) (byte_right (4 * i + 3) (4 * (i - m) + 3) (omega arith))

  pub pixels-append : pixels (xs ++ ys) ≡ pixels xs ++ pixels ys
  pixels-append =
      let la = length-append xs ys in let lp = length-pixels (xs ++ ys) in let lx = length-pixels xs in let ly = length-pixels ys in let lb = length-append (pixels xs) (pixels ys) in
      same_texels (pixels (xs ++ ys)) (pixels xs ++ pixels ys) (omega arith) (λ i h.
      listed_at (length (xs ++ ys) / 4) (λ j. colour_from (xs ++ ys) (4 * j)) i (omega arith) ∙ elim (cases_lt i m) [
        | inl l ↦ px_left i l ∙ sym (listed_at (length xs / 4) (λ j. colour_from xs (4 * j)) i (omega arith)) ∙ sym (get_or_append_left (pixels xs) (pixels ys) clear i (omega arith))
        | inr g ↦ px_right i g ∙ sym (listed_at (length ys / 4) (λ j. colour_from ys (4 * j)) (i - m) (omega arith)) ∙ sym (get_or-append_right (pixels xs) (pixels ys) m i clear (omega arith) g)
      ])

pub joined_push : (bands : List (List Px)) (band : List Px) → joined (bands ++ band ∷ []) ≡ joined bands ++ band
joined_push [] band = append-nil band
joined_push (b ∷ bands) band = ap (λ l. b ++ l) (joined_push bands band) ∙ sym (append_assoc b (joined bands) band)

-- the first k bands are made, and the bytes of the rest are left
pub record IsBegun (size total k : ℕ) (bytes : List ℕ) (bands : List (List Px)) (rest : List ℕ) : Type 0 where
  pub left : length rest ≡ 4 * (total - k * size)
  pub count : length bands ≡ k
  pub value : joined bands ++ pixels rest ≡ pixels bytes
  pub bad : bad_from (k * size) (pixels rest) ≡ first_bad (pixels bytes)
  pub each : (i : ℕ) → i < k → length (band_at bands i) ≡ min size (total - i * size)
  pub sound : (i : ℕ) → HasPixels (band_at bands i)

pub none_left : (n m : ℕ) (texels : List Px) → length texels ≡ 0 → bad_from n texels ≡ bad_from m texels
none_left n m [] e = refl
none_left n m (p ∷ ps) e = absurd (omega arith)

pub begun : (size total : ℕ) (bytes : List ℕ) → length bytes ≡ 4 * total → IsBegun size total 0 bytes [] bytes
begun size total bytes l = record {
  left = omega arith;
  count = refl;
  value = refl;
  bad = ap (λ n. bad_from n (pixels bytes)) (omega arith);
  each = λ i h. absurd (omega arith);
  sound = λ i. none_sound;
}

module _ (size total k : ℕ) (bytes : List ℕ) (bands : List (List Px)) (rest : List ℕ) (b : IsBegun size total k bytes bands rest) (m : ℕ) (size_of : m ≡ min (length rest) (4 * size)) where
  part_long : length (take m rest) ≡ m
  part_long = length-take-le m rest (omega arith)

  below_long : length (drop m rest) ≡ length rest - m
  below_long = length-drop m rest

  split : pixels rest ≡ pixels (take m rest) ++ pixels (drop m rest)
  split =
      let p = part_long in let l = b.left in
      ap pixels (sym (take-append-drop m rest)) ∙ pixels-append (take m rest) (drop m rest) (m / 4) (omega arith)

  pub part_whole : length (take m rest) ≡ 4 * (length (take m rest) / 4)
  part_whole = let p = part_long in let l = b.left in omega arith

  pub refused : (i : ℕ) → bad_from (k * size) (pixels (take m rest)) ≡ Some i → first_bad (pixels bytes) ≡ Some i
  refused i e = sym b.bad ∙ ap (λ l. bad_from (k * size) l) split ∙ bad_append_some (k * size) i (pixels (take m rest)) (pixels (drop m rest)) e

  module _ (good : bad_from (k * size) (pixels (take m rest)) ≡ None) (part_sound : HasPixels (pixels (take m rest))) where
    bad_left : bad_from (suc k * size) (pixels (drop m rest)) ≡ first_bad (pixels bytes)
    bad_left =
        let t = times_suc k size in let p = part_long in let q = below_long in let l = b.left in let n = length-pixels (take m rest) in let o = length-pixels (drop m rest) in
        let on : bad_from (k * size) (pixels rest) ≡ bad_from (k * size + length (pixels (take m rest))) (pixels (drop m rest)) = ap (λ l. bad_from (k * size) l) split ∙ bad_append_none (k * size) (pixels (take m rest)) (pixels (drop m rest)) good in
        elim (cases_lt m (4 * size)) [
          | inl s ↦ none_left (suc k * size) (k * size + length (pixels (take m rest))) (pixels (drop m rest)) (omega arith) ∙ sym on ∙ b.bad
          | inr s ↦ ap (λ i. bad_from i (pixels (drop m rest))) (omega arith) ∙ sym on ∙ b.bad
        ]

    at_push : (i : ℕ) → i < k → band_at (bands ++ pixels (take m rest) ∷ []) i ≡ band_at bands i
    at_push i h = get_or_append_left bands (pixels (take m rest) ∷ []) [] i (omega (arith, b.count))

    at_last : band_at (bands ++ pixels (take m rest) ∷ []) k ≡ pixels (take m rest)
    at_last = get_or_push bands (pixels (take m rest)) [] k b.count

    pub begun_more : IsBegun size total (suc k) bytes (bands ++ pixels (take m rest) ∷ []) (drop m rest)
    begun_more =
        let t = times_suc k size in let p = part_long in let q = below_long in let l = b.left in let n = length-pixels (take m rest) in
        record {
          left = omega arith;
          count = length_push bands (pixels (take m rest)) ∙ (omega (arith, b.count));
          value = ap (λ j. j ++ pixels (drop m rest)) (joined_push bands (pixels (take m rest))) ∙ append_assoc (joined bands) (pixels (take m rest)) (pixels (drop m rest)) ∙ ap (λ j. joined bands ++ j) (sym split) ∙ b.value;
          bad = bad_left;
          each = λ i h. elim (cases_lt i k) [
            | inl s ↦ ap length (at_push i s) ∙ b.each i s
            | inr s ↦ let e : i ≡ k = omega arith in ap (λ j. length (band_at (bands ++ pixels (take m rest) ∷ []) j)) e ∙ ap length at_last ∙ n ∙ (let f : i * size ≡ k * size = ap (λ j. j * size) e in omega arith)
          ];
          sound = λ i. elim (cases_lt i k) [
            | inl s ↦ subst HasPixels (sym (at_push i s)) (b.sound i)
            | inr s ↦ elim (cases_lt k i) [
              | inl o ↦ subst HasPixels (sym (get_or_past (bands ++ pixels (take m rest) ∷ []) i [] (omega (arith, length_push bands (pixels (take m rest)), b.count)))) none_sound
              | inr o ↦ let e : i ≡ k = omega arith in subst HasPixels (sym (ap (λ j. band_at (bands ++ pixels (take m rest) ∷ []) j) e ∙ at_last)) part_sound
            ]
          ];
        }

-- after a part's band was pushed
pub begun_pushed : {Z : Type 0} (size total k : ℕ) (bytes : List ℕ) (shared : List (Rc (List Px) Z)) (rest : List ℕ) → IsBegun size total k bytes (values shared) rest → (m : ℕ) → m ≡ min (length rest) (4 * size)
    → (part below : List ℕ) (band : Rc (List Px) Z) (pushed : List (Rc (List Px) Z)) → part ≡ take m rest → below ≡ drop m rest → bad_from (k * size) (pixels part) ≡ None → HasPixels (pixels part) → band.value ≡ pixels part → pushed ≡ shared ++ band ∷ []
    → IsBegun size total (k + 1) bytes (values pushed) below
begun_pushed {Z} size total k bytes shared rest b m e part below band pushed p d g f v q =
    let t = begun_more size total k bytes (values shared) rest b m e (ap (λ l. bad_from (k * size) (pixels l)) (sym p) ∙ g) (subst (λ l. HasPixels (pixels l)) p f) in
    let one : suc k ≡ k + 1 = omega arith in
    let last : band.value ≡ pixels (take m rest) = v ∙ ap pixels p in
    let all : values pushed ≡ values shared ++ pixels (take m rest) ∷ [] = ap values q ∙ map-append (λ (s : Rc (List Px) Z). s.value) shared (band ∷ []) ∙ ap (λ x. values shared ++ x ∷ []) last in
    rw (all, d, ← one) t

module _ (w h k : ℕ) (bytes : List ℕ) (bands : List (List Px)) (rest : List ℕ) (some_wide : 1 ≤ w) (b : IsBegun (64 * w) (h * w) k bytes bands rest) (all : h ≤ 64 * k) where
  nothing : h * w ≤ k * (64 * w)
  nothing = let m = mul-le h w (64 * k) w all (omega arith) in omega arith

  empty : pixels rest ≡ []
  empty = let n = nothing in let l = b.left in let p = length-pixels rest in same_texels (pixels rest) [] (omega arith) (λ i h. absurd (omega arith))

  pub made_value : joined bands ≡ pixels bytes
  made_value = sym (append-nil (joined bands)) ∙ ap (λ l. joined bands ++ l) (sym empty) ∙ b.value

  pub made_good : first_bad (pixels bytes) ≡ None
  made_good = sym b.bad ∙ ap (λ l. bad_from (k * (64 * w)) l) empty

  pub made_image : IsSide w → IsSide h → AreImageBands w h bands
  made_image wide high = record {
    wide = wide;
    high = high;
    banded = record { each = λ i l. b.each i (omega (arith, b.count)); enough = let n = nothing in let e : length bands * (64 * w) ≡ k * (64 * w) = ap (λ j. j * (64 * w)) b.count in omega arith };
    sound = b.sound;
  }

-- a refusal for a part's first bad colour, where that is the first of all
pub refuses_on : (e : StoreError) (o p : Option ℕ) → ((i : ℕ) → o ≡ Some i → p ≡ Some i) → Refuses e (tested o) → Refuses e (tested p)
refuses_on errors.NoMemory o p f r = tt
refuses_on errors.Limit None p f r = absurd (cc)
refuses_on errors.Limit (Some i) p f r = absurd (cc)
refuses_on errors.UnknownImage None p f r = absurd (cc)
refuses_on errors.UnknownImage (Some i) p f r = absurd (cc)
refuses_on errors.OutOfWidth None p f r = absurd (cc)
refuses_on errors.OutOfWidth (Some i) p f r = absurd (cc)
refuses_on errors.OutOfHeight None p f r = absurd (cc)
refuses_on errors.OutOfHeight (Some i) p f r = absurd (cc)
refuses_on (errors.BadPixels j) None p f r = absurd (cc)
refuses_on (errors.BadPixels j) (Some i) p f r = ap tested (f i refl) ∙ r

-- the texels of a part are some of all
pub part_within : (w h k n m : ℕ) → k < (h + 63) / 64 → n ≡ 4 * (h * w - k * (64 * w)) → m ≤ n → k * (64 * w) + m / 4 ≤ h * w
part_within w h k n m b l f = let s = mul-le (k * 64) w h w (omega arith) in let e : k * (64 * w) ≡ k * 64 * w = omega arith in let le = s (omega arith) in omega arith
