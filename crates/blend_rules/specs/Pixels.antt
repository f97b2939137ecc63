-- Rows of pixels, and the bytes that spell them.
use Rattle.std.specs.Prelude.{◌≡◌, ℕ, ◌+◌, ◌*◌, ◌/◌, ◌<◌, List, ◌++◌, length, map, take, drop, slice_index_or}
use Rattle.std.specs.List.{flat_map, range_with_len}
use Rattle.blend_rules.specs.declared.colour.Px.{Px}
use Rattle.blend_rules.specs.Colour.{IsPremultiplied, IsPixel, clear, colour_bytes, colour_from}

-- the n values that a function gives of 0, 1 and so on
unfoldable pub listed : {A : Type 0} → ℕ → (ℕ → A) → List A
listed n f = map f (range_with_len 0 n)

-- a list with others in place of its own from an index on
abbrev pub written : {A : Type 0} → List A → ℕ → List A → List A
written old at new = take at old ++ new ++ drop (at + length new) old

-- the pixel at an index of a row, clear beyond its end
abbrev pub nth_pixel : List Px → ℕ → Px
nth_pixel row i = slice_index_or row i clear

-- the pixels that bytes spell, four bytes each
abbrev pub pixels : List ℕ → List Px
pixels bytes = listed (length bytes / 4) (λ i. colour_from bytes (4 * i))

-- the bytes that spell a row of pixels
abbrev pub pixel_bytes : List Px → List ℕ
pixel_bytes row = flat_map colour_bytes row

-- each pixel of a row is premultiplied
abbrev pub ArePremultiplied : List Px → Type 0
ArePremultiplied row = (i : ℕ) → i < length row → IsPremultiplied (nth_pixel row i)

-- each is premultiplied and of four bytes
abbrev pub ArePixels : List Px → Type 0
ArePixels row = (i : ℕ) → i < length row → IsPixel (nth_pixel row i)

-- each hides what is below it
abbrev pub AreOpaque : List Px → Type 0
AreOpaque row = (i : ℕ) → i < length row → (nth_pixel row i).a ≡ 255
