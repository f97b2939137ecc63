-- Rows of pixels, and the first colour that isn't premultiplied.
use Rattle.std.proofs.Common.{◌≡◌, ℕ, suc, ◌+◌, ◌*◌, ◌/◌, ◌<◌, ◌≤◌, ◌^◌, inl, inr, Bool, true, false, Some, None, if◌then◌else◌, List, [], ◌∷◌, ◌++◌, length, drop, subst, ap, ◌∙◌, sym, arith}
use Rattle.std.proofs.lemmas.Bool.{cases_lt}
use Rattle.std.proofs.lemmas.List.{drop_more, drop_all, get_or_past}
use Rattle.blend_rules.specs.declared.colour.Px.{Px}
use Rattle.blend_rules.specs.Colour.{IsPremultiplied, IsPixel, clear, colour_from, is_premultiplied}
use Rattle.blend_rules.specs.Pixels.{nth_pixel, pixels, written}
use Rattle.image_store.specs.Bands.{HasPixels}
use Rattle.image_store.specs.Changes.{bad_from}
use Rattle.image_store.proofs.Lists.{length-pixels, listed_at, written_inside, written_below, written_above}
use Rattle.image_store.proofs.Places.{place}

pub clear_is : IsPixel clear
clear_is = record { premultiplied = record { blue = omega arith; green = omega arith; red = omega arith }; byte = omega arith }

pub none_sound : HasPixels []
none_sound i = clear_is

pub pixels_written : (old : List Px) (at : ℕ) (new : List Px) → at + length new ≤ length old → HasPixels old → HasPixels new → HasPixels (written old at new)
pixels_written old at new fits o n i = elim (place at (length new) i) [
  | inl l ↦ subst IsPixel (sym (written_below old at new fits i l)) (o i)
  | inr (inl (k, l, e)) ↦ subst IsPixel (sym (ap (λ j. nth_pixel (written old at new) j) (sym e) ∙ written_inside old at new fits k l)) (n k)
  | inr (inr l) ↦ subst IsPixel (sym (written_above old at new fits i l)) (o i)
]

-- what holds of each colour that bytes spell holds of their row
pub pixels_read : (bytes : List ℕ) → ((k : ℕ) → k < length bytes / 4 → IsPixel (colour_from bytes (4 * k))) → HasPixels (pixels bytes)
pixels_read bytes f i = elim (cases_lt i (length bytes / 4)) [
  | inl l ↦ subst IsPixel (sym (listed_at (length bytes / 4) (λ j. colour_from bytes (4 * j)) i l)) (f i l)
  | inr m ↦ subst IsPixel (sym (get_or_past (pixels bytes) i clear (omega (arith, length-pixels bytes)))) clear_is
]

pub read_pixels : (bytes : List ℕ) → HasPixels (pixels bytes) → (k : ℕ) → k < length bytes / 4 → IsPixel (colour_from bytes (4 * k))
read_pixels bytes p k h = subst IsPixel (listed_at (length bytes / 4) (λ j. colour_from bytes (4 * j)) k h) (p k)

pub premultiplied_is : (p : Px) → is_premultiplied p ≡ true → IsPremultiplied p
unfolding is_premultiplied
premultiplied_is p e = record { blue = grind arith; green = grind arith; red = grind arith }

none_in : (n : ℕ) (xs ys : List Px) (t : Bool) → (bad_from (n + 1) xs ≡ None → bad_from (n + 1) (xs ++ ys) ≡ bad_from (n + 1 + length xs) ys) → (if t then bad_from (n + 1) xs else Some n) ≡ None
    → (if t then bad_from (n + 1) (xs ++ ys) else Some n) ≡ bad_from (n + suc (length xs)) ys
none_in n xs ys true f e = f e ∙ ap (λ m. bad_from m ys) (omega arith)
none_in n xs ys false f e = absurd (cc)

pub bad_append_none : (n : ℕ) (xs ys : List Px) → bad_from n xs ≡ None → bad_from n (xs ++ ys) ≡ bad_from (n + length xs) ys
bad_append_none n [] ys e = ap (λ m. bad_from m ys) (omega arith)
bad_append_none n (x ∷ xs) ys e = none_in n xs ys (is_premultiplied x) (bad_append_none (n + 1) xs ys) e

some_in : (n i : ℕ) (xs ys : List Px) (t : Bool) → (bad_from (n + 1) xs ≡ Some i → bad_from (n + 1) (xs ++ ys) ≡ Some i) → (if t then bad_from (n + 1) xs else Some n) ≡ Some i
    → (if t then bad_from (n + 1) (xs ++ ys) else Some n) ≡ Some i
some_in n i xs ys true f e = f e
some_in n i xs ys false f e = e

pub bad_append_some : (n i : ℕ) (xs ys : List Px) → bad_from n xs ≡ Some i → bad_from n (xs ++ ys) ≡ Some i
bad_append_some n i [] ys e = absurd (cc)
bad_append_some n i (x ∷ xs) ys e = some_in n i xs ys (is_premultiplied x) (bad_append_some (n + 1) i xs ys) e

-- ---- one texel more
module _ (number i : ℕ) (bytes : List ℕ) (h : i < length bytes / 4) where
  drop_pixels : drop i (pixels bytes) ≡ colour_from bytes (4 * i) ∷ drop (i + 1) (pixels bytes)
  drop_pixels =
      drop_more (pixels bytes) i clear (omega (arith, length-pixels bytes))
      ∙ ap (λ p. p ∷ drop (i + 1) (pixels bytes)) (listed_at (length bytes / 4) (λ j. colour_from bytes (4 * j)) i h)

  pub bad_more : is_premultiplied (colour_from bytes (4 * i)) ≡ true → bad_from (number + (i + 1)) (drop (i + 1) (pixels bytes)) ≡ bad_from (number + i) (drop i (pixels bytes))
  bad_more e =
      ap (λ m. bad_from m (drop (i + 1) (pixels bytes))) (omega arith)
      ∙ sym (ap (λ l. bad_from (number + i) l) drop_pixels ∙ ap (λ t. if t then bad_from (number + i + 1) (drop (i + 1) (pixels bytes)) else Some (number + i)) e)

  pub bad_here : is_premultiplied (colour_from bytes (4 * i)) ≡ false → Some (number + i) ≡ bad_from (number + i) (drop i (pixels bytes))
  bad_here e = sym (ap (λ l. bad_from (number + i) l) drop_pixels ∙ ap (λ t. if t then bad_from (number + i + 1) (drop (i + 1) (pixels bytes)) else Some (number + i)) e)

pub bad_end : (number i : ℕ) (bytes : List ℕ) → length bytes / 4 ≤ i → bad_from (number + i) (drop i (pixels bytes)) ≡ None
bad_end number i bytes h = ap (λ l. bad_from (number + i) l) (drop_all i (pixels bytes) (omega (arith, length-pixels bytes)))

-- the first texels of a row are pixels
pub record IsChecked (number i : ℕ) (bytes : List ℕ) : Type 0 where
  pub rest : bad_from (number + i) (drop i (pixels bytes)) ≡ bad_from number (pixels bytes)
  pub front : (k : ℕ) → k < i → IsPixel (colour_from bytes (4 * k))

pub checked_more : (number i : ℕ) (bytes : List ℕ) → i < length bytes / 4 → IsChecked number i bytes → is_premultiplied (colour_from bytes (4 * i)) ≡ true → (colour_from bytes (4 * i)).a < 2 ^ 8 → IsChecked number (i + 1) bytes
checked_more number i bytes h c e b = record {
  rest = bad_more number i bytes h e ∙ c.rest;
  front = λ k l. elim (cases_lt k i) [
    | inl s ↦ c.front k s
    | inr s ↦ let same : i ≡ k = omega arith in
        subst (λ j. IsPixel (colour_from bytes (4 * j))) same (record { premultiplied = premultiplied_is (colour_from bytes (4 * i)) e; byte = b })
  ];
}

-- where each is premultiplied, none is bad
is_sound : (p : Px) → IsPremultiplied p → is_premultiplied p ≡ true
unfolding is_premultiplied
is_sound p h = let b = h.blue in let g = h.green in let r = h.red in grind arith

pub none_bad : (n : ℕ) (texels : List Px) → HasPixels texels → bad_from n texels ≡ None
none_bad n [] h = λ i. None
none_bad n (p ∷ ps) h = ap (λ t. if t then bad_from (n + 1) ps else Some n) (is_sound p (h 0).premultiplied) ∙ none_bad (n + 1) ps (λ i. h (suc i))
