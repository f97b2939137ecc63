-- What all bands are, the image is.
use Rattle.std.proofs.Common.{ℕ, zero, suc, ◌+◌, ◌-◌, ◌*◌, ◌<◌, ◌≤◌, inl, inr, List, [], ◌∷◌, ◌++◌, length, take, subst, ap, ◌∙◌, sym, refl, arith}
use Rattle.std.proofs.lemmas.Bool.{cases_lt}
use Rattle.std.proofs.lemmas.List.{length-append, get_or_append_left, get_or-append_right, get_or-append-add, take_more, take_all}
use Rattle.blend_rules.specs.declared.colour.Px.{Px}
use Rattle.blend_rules.specs.Colour.{IsPixel, clear}
use Rattle.blend_rules.specs.Pixels.{AreOpaque}
use Rattle.image_store.specs.Bands.{AreImageBands, HasPixels, band_at, joined}
use Rattle.image_store.specs.Models.{IsImage}
use Rattle.image_store.proofs.Banding.{length-joined}
use Rattle.image_store.proofs.Begun.{joined_push}
use Rattle.image_store.proofs.Checking.{none_sound}

sound-append : (xs ys : List Px) → HasPixels xs → HasPixels ys → HasPixels (xs ++ ys)
sound-append xs ys f g i = elim (cases_lt i (length xs)) [
  | inl l ↦ subst IsPixel (sym (get_or_append_left xs ys clear i l)) (f i)
  | inr r ↦ subst IsPixel (sym (get_or-append_right xs ys (length xs) i clear refl r)) (g (i - length xs))
]

pub joined_sound : (bands : List (List Px)) → ((k : ℕ) → HasPixels (band_at bands k)) → HasPixels (joined bands)
joined_sound [] f = none_sound
joined_sound (b ∷ bands) f = sound-append b (joined bands) (f 0) (joined_sound bands (λ k. f (suc k)))

pub image_is : (w h generation : ℕ) (bands : List (List Px)) → AreImageBands w h bands → IsImage (record { w = w; h = h; generation = generation; texels = joined bands })
image_is w h generation bands i = record {
  wide = i.wide;
  high = i.high;
  whole = length-joined (64 * w) (h * w) bands i.banded;
  pixels = λ k l. joined_sound bands i.sound k;
}

pub opaque-append : (xs ys : List Px) → AreOpaque xs → AreOpaque ys → AreOpaque (xs ++ ys)
opaque-append xs ys f g i h = elim (cases_lt i (length xs)) [
  | inl l ↦ ap (λ (p : Px). p.a) (get_or_append_left xs ys clear i l) ∙ f i l
  | inr r ↦ ap (λ (p : Px). p.a) (get_or-append_right xs ys (length xs) i clear refl r) ∙ g (i - length xs) (omega (arith, length-append xs ys))
]

opaque_left : (xs ys : List Px) → AreOpaque (xs ++ ys) → AreOpaque xs
opaque_left xs ys f i h = sym (ap (λ (p : Px). p.a) (get_or_append_left xs ys clear i h)) ∙ f i (omega (arith, length-append xs ys))

opaque_right : (xs ys : List Px) → AreOpaque (xs ++ ys) → AreOpaque ys
opaque_right xs ys f i h = sym (ap (λ (p : Px). p.a) (get_or-append-add xs ys i clear)) ∙ f (length xs + i) (omega (arith, length-append xs ys))

pub opaque_band : (bands : List (List Px)) → AreOpaque (joined bands) → (k : ℕ) → k < length bands → AreOpaque (band_at bands k)
opaque_band [] f k h = absurd (omega arith)
opaque_band (b ∷ bands) f zero h = opaque_left b (joined bands) f
opaque_band (b ∷ bands) f (suc k) h = opaque_band bands (opaque_right b (joined bands) f) k (omega arith)

pub opaque_more : (bands : List (List Px)) (k : ℕ) → k < length bands → AreOpaque (joined (take k bands)) → AreOpaque (band_at bands k) → AreOpaque (joined (take (k + 1) bands))
opaque_more bands k h f g = subst AreOpaque (sym (ap joined (take_more bands k [] h) ∙ joined_push (take k bands) (band_at bands k))) (opaque-append (joined (take k bands)) (band_at bands k) f g)

pub opaque_all : (bands : List (List Px)) (k : ℕ) → length bands ≤ k → AreOpaque (joined (take k bands)) → AreOpaque (joined bands)
opaque_all bands k h f = subst AreOpaque (ap joined (take_all k bands h)) f
