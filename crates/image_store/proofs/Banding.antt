-- Bands of one size, joined.
use Rattle.std.proofs.Common.{◌≡◌, ℕ, zero, suc, ◌+◌, ◌-◌, ◌*◌, ◌/◌, ◌%◌, ◌<◌, ◌≤◌, min, List, [], ◌∷◌, ◌++◌, length, take, drop, set, append_assoc, inl, inr, ap, ◌∙◌, sym, arith}
use Rattle.std.proofs.Math.Seq.{take-append-add, drop-append-add}
use Rattle.std.proofs.lemmas.List.{length-append, take-append-le, drop-append-le, get_or_append_left, get_or-append_right, get_or-set_same, get_or-set_other, length-set}
use Rattle.std.proofs.lemmas.Nat.{mul-le}
use Rattle.std.proofs.lemmas.Bool.{cases_lt, cases_eq}
use Rattle.blend_rules.specs.declared.colour.Px.{Px}
use Rattle.blend_rules.specs.Colour.{clear}
use Rattle.blend_rules.specs.Pixels.{nth_pixel, written}
use Rattle.image_store.specs.Bands.{AreBands, band_at, joined}

pub times_suc : (k size : ℕ) → suc k * size ≡ size + k * size
times_suc k size = omega arith

nought : (size j : ℕ) → 0 * size + j ≡ j
nought size j = omega arith

bands_below : (size total : ℕ) (band : List Px) (bands : List (List Px)) → AreBands size total (band ∷ bands) → AreBands size (total - size) bands
bands_below size total band bands b = record {
  each = λ k h. let t = times_suc k size in b.each (suc k) (omega arith) ∙ ap (λ n. min size n) (omega arith);
  enough = let t = times_suc (length bands) size in let e = b.enough in omega arith;
}

pub length-joined : (size total : ℕ) (bands : List (List Px)) → AreBands size total bands → length (joined bands) ≡ total
length-joined size total [] b = let e = b.enough in omega arith
length-joined size total (band ∷ bands) b =
    let i = length-joined size (total - size) bands (bands_below size total band bands b) in
    let f : length band ≡ min size (total - 0 * size) = b.each 0 (omega arith) in
    length-append band (joined bands) ∙ (omega arith)

-- a band in front of one that has any place is full
full : (size total : ℕ) (band : List Px) (bands : List (List Px)) → AreBands size total (band ∷ bands) → size < total → length band ≡ size
full size total band bands b h = let f : length band ≡ min size (total - 0 * size) = b.each 0 (omega arith) in omega arith

pub joined_at : (size total : ℕ) (bands : List (List Px)) → AreBands size total bands → (k j : ℕ) → k < length bands → k * size < total → j < length (band_at bands k) → nth_pixel (joined bands) (k * size + j) ≡ nth_pixel (band_at bands k) j
joined_at size total [] b k j h t l = absurd (omega arith)
joined_at size total (band ∷ bands) b zero j h t l = ap (λ n. nth_pixel (band ++ joined bands) n) (nought size j) ∙ get_or_append_left band (joined bands) clear j l
joined_at size total (band ∷ bands) b (suc k) j h t l =
    let m = times_suc k size in
    let f = full size total band bands b in
    elim (cases_lt size total) [
      | inl s ↦
          get_or-append_right band (joined bands) size (suc k * size + j) clear (f s) (omega arith)
          ∙ ap (λ n. nth_pixel (joined bands) n) (omega arith)
          ∙ joined_at size (total - size) bands (bands_below size total band bands b) k j (omega arith) (omega arith) l
      | inr s ↦ absurd (omega arith)
    ]

module _ (front back new : List Px) where
  pub written_front : (at : ℕ) → at + length new ≤ length front → written (front ++ back) at new ≡ written front at new ++ back
  written_front at h =
      ap (λ l. l ++ new ++ drop (at + length new) (front ++ back)) (take-append-le at front back (omega arith))
      ∙ ap (λ l. take at front ++ new ++ l) (drop-append-le (at + length new) front back h)
      ∙ sym (append_assoc (take at front ++ new) (drop (at + length new) front) back)

  pub written_back : (at n : ℕ) → length front ≡ n → written (front ++ back) (n + at) new ≡ front ++ written back at new
  written_back at n e =
      let s : n + at + length new ≡ length front + (at + length new) = omega arith in
      ap (λ m. take (m + at) (front ++ back) ++ new ++ drop (n + at + length new) (front ++ back)) (sym e)
      ∙ ap (λ l. l ++ new ++ drop (n + at + length new) (front ++ back)) (take-append-add front back at)
      ∙ ap (λ m. (front ++ take at back) ++ new ++ drop m (front ++ back)) s
      ∙ ap (λ l. (front ++ take at back) ++ new ++ l) (drop-append-add front back (at + length new))
      ∙ simp append_assoc

pub joined_set : (size total : ℕ) (bands : List (List Px)) → AreBands size total bands → (k j : ℕ) (changed new : List Px) → k < length bands → k * size < total → j + length new ≤ length (band_at bands k)
    → changed ≡ written (band_at bands k) j new → joined (set bands k changed) ≡ written (joined bands) (k * size + j) new
joined_set size total [] b k j changed new h t l e = absurd (omega arith)
joined_set size total (band ∷ bands) b zero j changed new h t l e = ap (λ c. c ++ joined bands) e ∙ sym (written_front band (joined bands) new j l) ∙ ap (λ n. written (band ++ joined bands) n new) (sym (nought size j))
joined_set size total (band ∷ bands) b (suc k) j changed new h t l e =
    let m = times_suc k size in
    let f : length band ≡ size = full size total band bands b (omega arith) in
    let i = joined_set size (total - size) bands (bands_below size total band bands b) k j changed new (omega arith) (omega arith) l e in
    let s : suc k * size + j ≡ size + (k * size + j) = omega arith in
    ap (λ c. band ++ c) i ∙ sym (written_back band (joined bands) new (k * size + j) size f) ∙ ap (λ n. written (band ++ joined bands) n new) (sym s)

ap_le : (m n t s : ℕ) → m ≡ n → t ≤ m * s → t ≤ n * s
ap_le m n t s e h = let q : m * s ≡ n * s = ap (λ k. k * s) e in omega arith

pub bands_set : (size total : ℕ) (bands : List (List Px)) → AreBands size total bands → (k : ℕ) (changed : List Px) → k < length bands → length changed ≡ length (band_at bands k) → AreBands size total (set bands k changed)
bands_set size total bands b k changed h e =
    let n = length-set bands k changed in
    record {
      each = λ i l. elim (cases_eq i k) [
        | inl same ↦ ap (λ m. length (band_at (set bands k changed) m)) same ∙ ap length (get_or-set_same bands k changed [] h) ∙ e ∙ ap (λ m. length (band_at bands m)) (sym same) ∙ b.each i (omega arith)
        | inr other ↦ ap length (get_or-set_other bands k i changed [] other) ∙ b.each i (omega arith)
      ];
      enough = let o = b.enough in ap_le _ _ total size (sym n) o;
    }

-- ---- rows of 64
module _ (w h y : ℕ) (bands : List (List Px)) (some : 1 ≤ w) (row : y < h) (b : AreBands (64 * w) (h * w) bands) where
  row_start : y * w ≡ y / 64 * (64 * w) + y % 64 * w
  row_start =
      let e : y ≡ 64 * (y / 64) + y % 64 = omega arith in
      ap (λ n. n * w) e ∙ (omega arith)

  row_end : y * w + w ≤ h * w
  row_end = let m = mul-le (y + 1) w h w (omega arith) (omega arith) in let n : (y + 1) * w ≡ y * w + w = omega arith in omega arith

  pub band_starts : y / 64 * (64 * w) < h * w
  band_starts = let s = row_start in let e = row_end in omega arith

  pub band_within : y / 64 < length bands
  band_within = elim (cases_lt (y / 64) (length bands)) [
    | inl l ↦ l
    | inr m ↦ let n = mul-le (length bands) (64 * w) (y / 64) (64 * w) m (omega arith) in let s = band_starts in let o = b.enough in absurd (omega arith)
  ]

  pub row_within : y % 64 * w + w ≤ length (band_at bands (y / 64))
  row_within =
      let s = row_start in let e = row_end in let l = b.each (y / 64) band_within in
      let m = mul-le (y % 64 + 1) w 64 w (omega arith) (omega arith) in let n : (y % 64 + 1) * w ≡ y % 64 * w + w = omega arith in
      omega arith

  pub row_place : (x : ℕ) → y / 64 * (64 * w) + (y % 64 * w + x) ≡ y * w + x
  row_place x = let s = row_start in omega arith

  -- a colour of the image, in its band
  pub band_texel : (x : ℕ) → x < w → nth_pixel (band_at bands (y / 64)) (y % 64 * w + x) ≡ nth_pixel (joined bands) (y * w + x)
  band_texel x l =
      let r = row_within in
      sym (joined_at (64 * w) (h * w) bands b (y / 64) (y % 64 * w + x) band_within band_starts (omega arith)) ∙ ap (λ n. nth_pixel (joined bands) n) (row_place x)
