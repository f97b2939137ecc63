-- Rows of pixels, by index and as bytes.
use Rattle.std.proofs.Common.{◌≡◌, ℕ, zero, suc, ◌+◌, ◌-◌, ◌*◌, ◌/◌, ◌<◌, ◌≤◌, ◌⊎◌, inl, inr, List, [], ◌∷◌, ◌++◌, length, take, drop, get_or, refl, sym, ap, subst, ◌∙◌, arith}
use Rattle.std.proofs.lemmas.Bool.{cases_lt}
use Rattle.std.proofs.lemmas.Grind.{flat_map-append}
use Rattle.std.proofs.lemmas.List.{length-append, length-drop, length-take-le, get_or-append_right, get_or_append_left, get_or-take, get_or-drop, get_or_past, ext_get_or}
use Rattle.std.proofs.lemmas.List.FromFn.{length-map-range_with_len, get_or-map-range_with_len, fill_by_all}
use Rattle.blend_rules.specs.declared.colour.Px.{Px}
use Rattle.blend_rules.specs.Colour.{IsPremultiplied, clear, colour_bytes, colour_from}
use Rattle.blend_rules.specs.Pixels.{ArePremultiplied, listed, written, nth_pixel, pixels, pixel_bytes}
use Rattle.blend_rules.specs.Laws.{PixelsOfTheirBytes, BytesOfTheirPixels}
use Rattle.blend_rules.proofs.Blends.{same_bytes}
use Rattle.blend_rules.proofs.Premultiplied.{clear_is_premultiplied}

-- ---- listed values

module _ {A : Type 0} (n : ℕ) (f : ℕ → A) where
  pub length-listed : length (listed n f) ≡ n
  unfolding listed
  length-listed = length-map-range_with_len f 0 n

  pub listed_at : (d : A) (i : ℕ) → i < n → get_or (listed n f) i d ≡ f i
  unfolding listed
  listed_at d i h = get_or-map-range_with_len f 0 n i i d h (omega arith)

  pub is_listed : (d : A) (xs : List A) → length xs ≡ n → ((i : ℕ) → i < n → get_or xs i d ≡ f i) → xs ≡ listed n f
  unfolding listed
  is_listed d xs l e = fill_by_all f xs n d l e

pub same_pixels : (xs ys : List Px) → length xs ≡ length ys → ((i : ℕ) → i < length xs → nth_pixel xs i ≡ nth_pixel ys i) → xs ≡ ys
same_pixels xs ys l e = ext_get_or clear xs ys l e

-- ---- written lists

-- an index before a part, in it or after it
pub part_of : (at n i : ℕ) → (i < at) ⊎ ((k : ℕ) × (k < n) × (at + k ≡ i)) ⊎ (at + n ≤ i)
part_of at n i = elim (cases_lt i at) [
  | inl h ↦ inl h
  | inr h ↦ elim (cases_lt i (at + n)) [
    | inl l ↦ inr (inl (i - at, omega arith, omega arith))
    | inr m ↦ inr (inr m)
  ]
]

module _ {A : Type 0} (d : A) (old : List A) (at : ℕ) (new : List A) (fits : at + length new ≤ length old) where
  prefix_length : length (take at old) ≡ at
  prefix_length = length-take-le at old (omega arith)

  pub length-written : length (written old at new) ≡ length old
  length-written =
      let a = length-append (take at old ++ new) (drop (at + length new) old) in
      let b = length-append (take at old) new in
      let c = prefix_length in
      let e = length-drop (at + length new) old in
      omega arith

  both_length : length (take at old ++ new) ≡ at + length new
  both_length = let b = length-append (take at old) new in let c = prefix_length in omega arith

  pub written_inside : (i : ℕ) → i < length new → get_or (written old at new) (at + i) d ≡ get_or new i d
  written_inside i h =
      get_or_append_left (take at old ++ new) (drop (at + length new) old) d (at + i) (omega (arith, both_length))
      ∙ get_or-append_right (take at old) new at (at + i) d prefix_length (omega arith)
      ∙ ap (λ k. get_or new k d) (omega arith)

  pub written_before : (i : ℕ) → i < at → get_or (written old at new) i d ≡ get_or old i d
  written_before i h =
      get_or_append_left (take at old ++ new) (drop (at + length new) old) d i (omega (arith, both_length))
      ∙ get_or_append_left (take at old) new d i (omega (arith, prefix_length))
      ∙ get_or-take at old i d h

  pub written_after : (i : ℕ) → at + length new ≤ i → get_or (written old at new) i d ≡ get_or old i d
  written_after i h =
      get_or-append_right (take at old ++ new) (drop (at + length new) old) (at + length new) i d both_length h
      ∙ get_or-drop (at + length new) old (i - (at + length new)) d
      ∙ ap (λ k. get_or old k d) (omega arith)

-- ---- pixels of bytes

pub length-pixels : (bytes : List ℕ) → length (pixels bytes) ≡ length bytes / 4
length-pixels bytes = length-listed (length bytes / 4) (λ i. colour_from bytes (4 * i))

pub pixels_at : (bytes : List ℕ) (i : ℕ) → i < length bytes / 4 → nth_pixel (pixels bytes) i ≡ colour_from bytes (4 * i)
pixels_at bytes i h = listed_at (length bytes / 4) (λ k. colour_from bytes (4 * k)) clear i h

module _ (xs ys : List ℕ) (m : ℕ) (long : length xs ≡ 4 * m) where
  byte_left : (i : ℕ) → i < 4 * m → get_or (xs ++ ys) i 0 ≡ get_or xs i 0
  byte_left i h = get_or_append_left xs ys 0 i (omega arith)

  colour_left : (i : ℕ) → i < m → colour_from (xs ++ ys) (4 * i) ≡ colour_from xs (4 * i)
  colour_left i h = same_bytes _ _ (byte_left (4 * i) (omega arith)) (byte_left (4 * i + 1) (omega arith)) (byte_left (4 * i + 2) (omega arith)) (byte_left (4 * i + 3) (omega arith))

  byte_right : (i j : ℕ) → i ≡ 4 * m + j → get_or (xs ++ ys) i 0 ≡ get_or ys j 0
  byte_right i j e = get_or-append_right xs ys (4 * m) i 0 long (omega arith) ∙ ap (λ n. get_or ys n 0) (omega arith)

  colour_right : (i : ℕ) → m ≤ i → colour_from (xs ++ ys) (4 * i) ≡ colour_from ys (4 * (i - m))
  colour_right i h =
      same_bytes _ _ (byte_right (4 * i) (4 * (i - m)) (omega arith)) (byte_right (4 * i + 1) (4 * (i - m) + 1) (omega arith))
      (byte_right (4 * i + 2) (4 * (i - m) + 2) (omega arith)) (byte_right (4 * i + 3) (4 * (i - m) + 3) (omega arith))

  pub pixels-append : pixels (xs ++ ys) ≡ pixels xs ++ pixels ys
  pixels-append =
      let la = length-append xs ys in
      let lp = length-pixels (xs ++ ys) in
      let lx = length-pixels xs in
      let ly = length-pixels ys in
      let lb = length-append (pixels xs) (pixels ys) in
      same_pixels (pixels (xs ++ ys)) (pixels xs ++ pixels ys) (omega arith) (λ i h.
      pixels_at (xs ++ ys) i (omega arith) ∙ elim (cases_lt i m) [
        | inl l ↦ colour_left i l ∙ sym (pixels_at xs i (omega arith)) ∙ sym (get_or_append_left (pixels xs) (pixels ys) clear i (omega arith))
        | inr g ↦ colour_right i g ∙ sym (pixels_at ys (i - m) (omega arith)) ∙ sym (get_or-append_right (pixels xs) (pixels ys) m i clear (omega arith) g)
      ])

pub length-colour_bytes : (p : Px) → length (colour_bytes p) ≡ 4
unfolding colour_bytes
length-colour_bytes p = refl

-- one pixel's bytes
pub pixels_one : (p : Px) → pixels (colour_bytes p) ≡ p ∷ []
unfolding listed colour_bytes
pixels_one p = refl

pub pixels_of_their_bytes : PixelsOfTheirBytes
pixels_of_their_bytes [] = same_pixels _ _ (length-pixels []) (λ i h. absurd (let e = length-pixels [] in omega arith))
pixels_of_their_bytes (p ∷ row) =
    pixels-append (colour_bytes p) (pixel_bytes row) 1 (length-colour_bytes p) ∙ ap (λ (l : List Px). l ++ pixels (pixel_bytes row)) (pixels_one p) ∙ ap (λ (l : List Px). p ∷ l) (pixels_of_their_bytes row)

-- so many pixels of bytes, one after another
bytes_by_count : (n : ℕ) (bytes : List ℕ) → length bytes ≡ 4 * n → pixel_bytes (pixels bytes) ≡ bytes
unfolding colour_bytes
bytes_by_count zero [] e = ap pixel_bytes (same_pixels (pixels []) [] (length-pixels []) (λ i h. absurd (let l = length-pixels [] in omega arith)))
bytes_by_count zero (b ∷ bytes) e = absurd (omega arith)
bytes_by_count (suc n) (b ∷ (g ∷ (r ∷ (a ∷ bytes)))) e =
    let p : Px = record { b = b; g = g; r = r; a = a } in
    ap pixel_bytes (pixels-append (b ∷ (g ∷ (r ∷ (a ∷ [])))) bytes 1 refl ∙ ap (λ (l : List Px). l ++ pixels bytes) (pixels_one p))
    ∙ ap (λ (l : List ℕ). b ∷ (g ∷ (r ∷ (a ∷ l)))) (bytes_by_count n bytes (omega arith))
bytes_by_count (suc n) [] e = absurd (omega arith)
bytes_by_count (suc n) (b ∷ []) e = absurd (omega arith)
bytes_by_count (suc n) (b ∷ (g ∷ [])) e = absurd (omega arith)
bytes_by_count (suc n) (b ∷ (g ∷ (r ∷ []))) e = absurd (omega arith)

pub bytes_of_their_pixels : BytesOfTheirPixels
bytes_of_their_pixels bytes e = bytes_by_count (length bytes / 4) bytes (sym e)

pub pixel_bytes-append : (xs ys : List Px) → pixel_bytes (xs ++ ys) ≡ pixel_bytes xs ++ pixel_bytes ys
pixel_bytes-append xs ys = flat_map-append colour_bytes xs ys

pub length-pixel_bytes : (row : List Px) → length (pixel_bytes row) ≡ 4 * length row
unfolding colour_bytes
length-pixel_bytes [] = refl
length-pixel_bytes (p ∷ row) = let l = length-pixel_bytes row in omega arith

-- ---- premultiplied rows

-- beyond the end of a row stands the clear colour
pub premultiplied_at : (row : List Px) → ArePremultiplied row → (i : ℕ) → IsPremultiplied (nth_pixel row i)
premultiplied_at row f i = elim (cases_lt i (length row)) [
  | inl h ↦ f i h
  | inr h ↦ subst (λ (p : Px). IsPremultiplied p) (sym (get_or_past row i clear h)) clear_is_premultiplied
]

pub premultiplied_listed : (n : ℕ) (f : ℕ → Px) → ((i : ℕ) → i < n → IsPremultiplied (f i)) → ArePremultiplied (listed n f)
premultiplied_listed n f h i l =
    let k : i < n = let e = length-listed n f in omega arith in
    subst (λ (p : Px). IsPremultiplied p) (sym (listed_at n f clear i k)) (h i k)

pub premultiplied_append : (xs ys : List Px) → ArePremultiplied xs → ArePremultiplied ys → ArePremultiplied (xs ++ ys)
premultiplied_append xs ys f g i h = elim (cases_lt i (length xs)) [
  | inl l ↦ subst (λ (p : Px). IsPremultiplied p) (sym (get_or_append_left xs ys clear i l)) (f i l)
  | inr m ↦ subst (λ (p : Px). IsPremultiplied p) (sym (get_or-append_right xs ys (length xs) i clear refl m)) (premultiplied_at ys g (i - length xs))
]

pub premultiplied_take : (n : ℕ) (row : List Px) → ArePremultiplied row → ArePremultiplied (take n row)
premultiplied_take n row f i h = elim (cases_lt i n) [
  | inl l ↦ subst (λ (p : Px). IsPremultiplied p) (sym (get_or-take n row i clear l)) (premultiplied_at row f i)
  | inr m ↦ absurd (omega (arith, length_take n row))
]
  where
    length_take : (k : ℕ) (xs : List Px) → length (take k xs) ≤ k
    length_take zero xs = omega arith
    length_take (suc k) [] = omega arith
    length_take (suc k) (x ∷ xs) = let l = length_take k xs in omega arith

pub premultiplied_drop : (n : ℕ) (row : List Px) → ArePremultiplied row → ArePremultiplied (drop n row)
premultiplied_drop n row f i h = subst (λ (p : Px). IsPremultiplied p) (sym (get_or-drop n row i clear)) (premultiplied_at row f (n + i))

pub premultiplied_written : (old : List Px) (at : ℕ) (new : List Px) → ArePremultiplied old → ArePremultiplied new → ArePremultiplied (written old at new)
premultiplied_written old at new f g =
    premultiplied_append (take at old ++ new) (drop (at + length new) old) (premultiplied_append (take at old) new (premultiplied_take at old f) g) (premultiplied_drop (at + length new) old f)
