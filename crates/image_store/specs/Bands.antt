-- Bands of rows, in which an image keeps its colours by planes.
use Rattle.std.specs.Prelude.{◌≡◌, ℕ, ◌+◌, ◌-◌, ◌*◌, ◌/◌, ◌==◌, ◌≤◌, ◌<◌, ◌^◌, min, List, [], ◌∷◌, ◌++◌, length, map, count_by, take, drop, slice_index, slice_index_or, Option, Result}
use Rattle.std.specs.declared.rc.Rc.{Rc}
use Rattle.blend_rules.specs.declared.colour.Px.{Px}
use Rattle.blend_rules.specs.declared.plane.Plane.{Plane}
use Rattle.blend_rules.specs.Colour.{IsPixel, colour_from}
use Rattle.blend_rules.specs.Planes.{channel}
use Rattle.blend_rules.specs.Pixels.{listed, nth_pixel, written}
use Rattle.image_store.specs.Models.{ImageModel, IsSide}
use Rattle.image_store.specs.Changes.{where_sound}
use Rattle.image_store.specs.declared.error.StoreError.{StoreError}

-- ---- one band

-- the colours whose bytes stand in four planes
unfoldable pub woven : List ℕ → List ℕ → List ℕ → List ℕ → List Px
woven blue green red alpha = listed (length blue) (λ i. record { b = slice_index blue i; g = slice_index green i; r = slice_index red i; a = slice_index alpha i })

-- how many bytes of alpha are 255
abbrev pub opaque_count : List ℕ → ℕ
opaque_count alpha = count_by (λ a. a == 255) alpha

-- four planes of one length with pixels, and how many of these are opaque
pub record IsBand (blue green red alpha : List ℕ) (count : ℕ) : Type 0 where
  pub green_fits : length green ≡ length blue
  pub red_fits : length red ≡ length blue
  pub alpha_fits : length alpha ≡ length blue
  pub blue_below : (i : ℕ) → slice_index blue i ≤ slice_index alpha i
  pub green_below : (i : ℕ) → slice_index green i ≤ slice_index alpha i
  pub red_below : (i : ℕ) → slice_index red i ≤ slice_index alpha i
  pub byte : (i : ℕ) → slice_index alpha i < 2 ^ 8
  pub counted : count ≡ opaque_count alpha

-- a colour's byte in a plane, or its alpha where that is less
abbrev pub cut : Plane → Px → ℕ
cut plane p = min (channel plane p) p.a

-- a plane with the bytes that interleaved colours have in it, cut to their alphas, written from an index on
pub record IsSplit (plane : Plane) (bytes : List ℕ) (at : ℕ) (old new : List ℕ) : Type 0 where
  pub long : length new ≡ length old
  pub below : take at new ≡ take at old
  pub inside : (i : ℕ) → i < length bytes / 4 → slice_index new (at + i) ≡ cut plane (colour_from bytes (4 * i))
  pub above : drop (at + length bytes / 4) new ≡ drop (at + length bytes / 4) old

-- each colour is a pixel; beyond the end all are clear
abbrev pub HasPixels : List Px → Type 0
HasPixels row = (i : ℕ) → IsPixel (nth_pixel row i)

-- ---- the bands of an image

-- the values that several owners may hold
abbrev pub values : {X Z : Type 0} → List (Rc X Z) → List X
values shared = map (λ s. s.value) shared

-- one after another
abbrev pub joined : List (List Px) → List Px
joined [] = []
joined (band ∷ bands) = band ++ joined bands

abbrev pub band_at : List (List Px) → ℕ → List Px
band_at bands k = slice_index_or bands k []

-- bands of one size, but for the last, with so many colours in all
pub record AreBands (size total : ℕ) (bands : List (List Px)) : Type 0 where
  pub each : (k : ℕ) → k < length bands → length (band_at bands k) ≡ min size (total - k * size)
  pub enough : total ≤ length bands * size

-- bands of 64 rows each, but for the last, with the pixels of an image of these sides
pub record AreImageBands (w h : ℕ) (bands : List (List Px)) : Type 0 where
  pub wide : IsSide w
  pub high : IsSide h
  pub banded : AreBands (64 * w) (h * w) bands
  pub sound : (k : ℕ) → HasPixels (band_at bands k)

-- an image with colours written into a row from a column on
abbrev pub with_row : ℕ → ℕ → List Px → ImageModel → ImageModel
with_row x y new old = record old { texels = written old.texels (y * old.w + x) new }

-- nothing, where no colour is bad
abbrev pub tested : Option ℕ → Result (Unit {0}) StoreError
tested bad = where_sound bad tt
