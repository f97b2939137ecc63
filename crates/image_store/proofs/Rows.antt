-- The band of a row, and what writing to it leaves.
use Rattle.std.proofs.Common.{◌≡◌, ℕ, ◌+◌, ◌*◌, ◌/◌, ◌%◌, ◌<◌, ◌≤◌, inl, inr, List, [], length, get_or, set, ap, subst, ◌∙◌, sym, arith}
use Rattle.std.specs.declared.rc.Rc.{Rc}
use Rattle.std.proofs.lemmas.Bool.{cases_eq}
use Rattle.std.proofs.lemmas.List.{get_or-set_same, get_or-set_other}
use Rattle.blend_rules.specs.declared.colour.Px.{Px}
use Rattle.blend_rules.specs.Pixels.{nth_pixel, written}
use Rattle.image_store.specs.Bands.{AreBands, AreImageBands, HasPixels, band_at, joined, values}
use Rattle.image_store.proofs.Sharing.{length-values, value_read, values-set}
use Rattle.image_store.proofs.Banding.{band_within, row_within, band_starts, band_texel, bands_set, joined_set, row_place}

kept : (bands : List (List Px)) (k : ℕ) (new : List Px) → k < length bands → HasPixels new → ((i : ℕ) → HasPixels (band_at bands i)) → (i : ℕ) → HasPixels (band_at (set bands k new) i)
kept bands k new h p old i = elim (cases_eq i k) [
  | inl same ↦ subst HasPixels (sym (ap (λ m. band_at (set bands k new) m) same ∙ get_or-set_same bands k new [] h)) p
  | inr other ↦ subst HasPixels (sym (get_or-set_other bands k i new [] other)) (old i)
]

module _ {Z : Type 0} (w h y k : ℕ) (shared : List (Rc (List Px) Z)) (image : AreImageBands w h (values shared)) (row : y < h) (at : k ≡ y / 64) where
  within : k < length (values shared)
  within = let b = band_within w h y (values shared) image.wide.some row image.banded in omega arith

  pub shared_within : k < length shared
  shared_within = let l = length-values shared in let w = within in omega arith

  module _ (band : Rc (List Px) Z) (read : band ≡ get_or shared k band) where
    value : band.value ≡ band_at (values shared) (y / 64)
    value = value_read shared k band shared_within read ∙ ap (λ n. band_at (values shared) n) at

    pub shared_room : y % 64 * w + w ≤ length band.value
    shared_room = let r = row_within w h y (values shared) image.wide.some row image.banded in let e = ap length value in omega arith

    pub shared_texel : (x : ℕ) → x < w → nth_pixel band.value (y % 64 * w + x) ≡ nth_pixel (joined (values shared)) (y * w + x)
    shared_texel x l = ap (λ b. nth_pixel b (y % 64 * w + x)) value ∙ band_texel w h y (values shared) image.wide.some row image.banded x l

    pub shared_set : (new : Rc (List Px) Z) → length new.value ≡ length band.value → HasPixels new.value → AreImageBands w h (values (set shared k new))
    shared_set new e p =
        let b = bands_set (64 * w) (h * w) (values shared) image.banded k new.value within (e ∙ ap length value ∙ ap (λ n. length (band_at (values shared) n)) (sym at)) in
        record { wide = image.wide; high = image.high; banded = subst (λ (l : List (List Px)). AreBands (64 * w) (h * w) l) (sym (values-set shared k new)) b; sound = λ i. subst (λ (l : List (List Px)). HasPixels (band_at l i)) (sym (values-set shared k new)) (kept (values shared) k new.value within p image.sound i) }

    pub shared_sound : HasPixels band.value
    shared_sound = subst HasPixels (sym value) (image.sound (y / 64))

    pub shared_joined : (new : Rc (List Px) Z) (x : ℕ) (ws : List Px) → x + length ws ≤ w → new.value ≡ written band.value (y % 64 * w + x) ws → joined (values (set shared k new)) ≡ written (joined (values shared)) (y * w + x) ws
    shared_joined new x ws f e =
        let r = shared_room in let l = ap length value in
        let v : new.value ≡ written (band_at (values shared) (y / 64)) (y % 64 * w + x) ws = e ∙ ap (λ b. written b (y % 64 * w + x) ws) value in
        ap joined (values-set shared k new) ∙ ap (λ n. joined (set (values shared) n new.value)) at
        ∙ joined_set (64 * w) (h * w) (values shared) image.banded (y / 64) (y % 64 * w + x) new.value ws (band_within w h y (values shared) image.wide.some row image.banded) (band_starts w h y (values shared) image.wide.some row image.banded) (omega arith) v
        ∙ ap (λ n. written (joined (values shared)) n ws) (row_place w h y (values shared) image.wide.some row image.banded x)
