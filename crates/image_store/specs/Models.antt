-- Images and masks as contracts see them.
use Rattle.std.specs.Prelude.{◌≡◌, ℕ, ◌+◌, ◌*◌, ◌≤◌, ◌<◌, ◌^◌, List, length, slice_index}
use Rattle.blend_rules.specs.declared.colour.Px.{Px}
use Rattle.blend_rules.specs.Pixels.{nth_pixel, ArePixels}

-- ---- images

-- sides in pixels, a generation, and the colours row by row
pub record ImageModel : Type 0 where
  pub w : ℕ
  pub h : ℕ
  pub generation : ℕ
  pub texels : List Px

-- the colour at a column and row
abbrev pub texel_of : ImageModel → ℕ → ℕ → Px
texel_of image x y = nth_pixel image.texels (y * image.w + x)

-- its number of texels, by its sides
abbrev pub image_area : ImageModel → ℕ
image_area image = image.w * image.h

-- a side of an image or of a mask
pub record IsSide (side : ℕ) : Type 0 where
  pub some : 1 ≤ side
  pub within : side ≤ 4096

-- what every stored image is
pub record IsImage (image : ImageModel) : Type 0 where
  pub wide : IsSide image.w
  pub high : IsSide image.h
  pub whole : length image.texels ≡ image.h * image.w
  pub pixels : ArePixels image.texels

-- ---- masks of glyphs

-- sides in pixels, a generation, and the coverage of each pixel row by row
pub record MaskModel : Type 0 where
  pub w : ℕ
  pub h : ℕ
  pub generation : ℕ
  pub bytes : List ℕ

-- the byte at a column and row
abbrev pub mask_byte : MaskModel → ℕ → ℕ → ℕ
mask_byte mask x y = slice_index mask.bytes (y * mask.w + x)

-- its number of bytes, by its sides
abbrev pub mask_area : MaskModel → ℕ
mask_area mask = mask.w * mask.h

-- what every stored mask is
pub record IsMask (mask : MaskModel) : Type 0 where
  pub wide : IsSide mask.w
  pub high : IsSide mask.h
  pub whole : length mask.bytes ≡ mask.h * mask.w
  pub bytes : (i : ℕ) → slice_index mask.bytes i < 2 ^ 8
