-- What holds of products, scaled colours, blends and rows of pixels, as laws on the definitions.
use Rattle.std.specs.Prelude.{◌≡◌, ℕ, ◌*◌, ◌/◌, ◌^◌, ◌<◌, ◌≤◌, List, length}
use Rattle.blend_rules.specs.declared.colour.Px.{Px}
use Rattle.blend_rules.specs.declared.mode.Mode.{Mode}
use Rattle.blend_rules.specs.declared.mode.Mode.TheVariants.{Normal}
use Rattle.blend_rules.specs.Colour.{IsPremultiplied, IsPixel, product, clear, scaled, blended, source_over}
use Rattle.blend_rules.specs.Pixels.{pixels, pixel_bytes}

-- ---- the product

-- times 255 of 255 is the byte itself
abbrev pub ProductByFull : Type 0
ProductByFull = (x : ℕ) → product x 255 ≡ x

-- 255 times a byte is that byte
abbrev pub ProductOfFull : Type 0
ProductOfFull = (y : ℕ) → y < 2 ^ 8 → product 255 y ≡ y

-- times 0 nothing is left
abbrev pub ProductByNone : Type 0
ProductByNone = (x : ℕ) → x < 2 ^ 8 → product x 0 ≡ 0

-- nothing stays nothing
abbrev pub ProductOfNone : Type 0
ProductOfNone = (y : ℕ) → product 0 y ≡ 0

-- a product is at most its first factor, so it is a byte
abbrev pub ProductAtMostFirst : Type 0
ProductAtMostFirst = (x y : ℕ) → y < 2 ^ 8 → product x y ≤ x

-- and at most its second
abbrev pub ProductAtMostSecond : Type 0
ProductAtMostSecond = (x y : ℕ) → x < 2 ^ 8 → product x y ≤ y

-- ---- scaled colours

-- times 255 of 255 is the colour itself
abbrev pub ScaledByFull : Type 0
ScaledByFull = (p : Px) → scaled p 255 ≡ p

-- times 0 is clear
abbrev pub ScaledByNone : Type 0
ScaledByNone = (p : Px) → IsPixel p → scaled p 0 ≡ clear

-- a scaled premultiplied colour is premultiplied
abbrev pub ScaledIsPremultiplied : Type 0
ScaledIsPremultiplied = (p : Px) (c : ℕ) → IsPremultiplied p → IsPremultiplied (scaled p c)

-- a scaled pixel is a pixel
abbrev pub ScaledIsPixel : Type 0
ScaledIsPixel = (p : Px) (c : ℕ) → c < 2 ^ 8 → IsPixel p → IsPixel (scaled p c)

-- ---- blends

-- a blend of any two colours is premultiplied, in every mode
abbrev pub BlendIsPremultiplied : Type 0
BlendIsPremultiplied = (m : Mode) (s d : Px) → IsPremultiplied (blended m s d)

-- a blend of colours whose alphas are bytes is a pixel, in every mode
abbrev pub BlendIsPixel : Type 0
BlendIsPixel = (m : Mode) (s d : Px) → s.a < 2 ^ 8 → d.a < 2 ^ 8 → IsPixel (blended m s d)

-- a clear source leaves the backdrop, in every mode
abbrev pub ClearSourceLeaves : Type 0
ClearSourceLeaves = (m : Mode) (d : Px) → IsPremultiplied d → d.a < 2 ^ 8 → blended m clear d ≡ d

-- over a clear backdrop stands the source, in every mode
abbrev pub ClearBackdropShows : Type 0
ClearBackdropShows = (m : Mode) (s : Px) → IsPremultiplied s → s.a < 2 ^ 8 → blended m s clear ≡ s

-- an opaque source covers any backdrop, in mode Normal
abbrev pub OpaqueCovers : Type 0
OpaqueCovers = (s d : Px) → IsPremultiplied s → s.a ≡ 255 → blended Normal s d ≡ s

-- in mode Normal no channel goes beyond the alpha of both, so that the limit changes nothing
abbrev pub NormalNeedsNoLimit : Type 0
NormalNeedsNoLimit = (s d : Px) → IsPremultiplied s → IsPremultiplied d → s.a < 2 ^ 8 → d.a < 2 ^ 8 → blended Normal s d ≡ source_over s d

-- ---- rows of pixels

-- a row is read back from its bytes
abbrev pub PixelsOfTheirBytes : Type 0
PixelsOfTheirBytes = (row : List Px) → pixels (pixel_bytes row) ≡ row

-- whole pixels spell the bytes that they were read from
abbrev pub BytesOfTheirPixels : Type 0
BytesOfTheirPixels = (bytes : List ℕ) → 4 * (length bytes / 4) ≡ length bytes → pixel_bytes (pixels bytes) ≡ bytes
