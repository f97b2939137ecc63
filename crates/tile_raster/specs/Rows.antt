-- Rows of pixels as four planes, and parts of them.
use Rattle.std.specs.Prelude.{◌≡◌, ℕ, ◌<◌, ◌≤◌, List, length, slice_index}
use Rattle.blend_rules.specs.Colour.{IsPixel}
use Rattle.blend_rules.specs.declared.colour.Px.{Px}
use Rattle.blend_rules.specs.declared.plane.Plane.{Plane}
use Rattle.blend_rules.specs.declared.plane.Plane.TheVariants.{B, G, R, A}
use Rattle.tile_raster.specs.declared.span.Span.{Span}

-- the bytes of a row in each plane
pub record LineModel : Type 0 where
  pub blue : List ℕ
  pub green : List ℕ
  pub red : List ℕ
  pub alpha : List ℕ

-- the bytes of a plane
abbrev pub line_plane : Plane → LineModel → List ℕ
line_plane B line = line.blue
line_plane G line = line.green
line_plane R line = line.red
line_plane A line = line.alpha

-- the number of its pixels
abbrev pub width : LineModel → ℕ
width line = length line.alpha

-- the pixel at an index
abbrev pub pixel : LineModel → ℕ → Px
pixel line k = record { b = slice_index line.blue k; g = slice_index line.green k; r = slice_index line.red k; a = slice_index line.alpha k }

-- each colour of it is premultiplied and of four bytes
abbrev pub HasPixels : LineModel → Type 0
HasPixels line = (k : ℕ) → IsPixel (pixel line k)

-- its planes are as long as each other, and its colours are pixels
pub record IsLine (line : LineModel) : Type 0 where
  pub blue : length line.blue ≡ length line.alpha
  pub green : length line.green ≡ length line.alpha
  pub red : length line.red ≡ length line.alpha
  pub pixels : HasPixels line

-- a span of a row of so many pixels
pub record IsSpan (s : Span) (n : ℕ) : Type 0 where
  pub order : s.from ≤ s.to
  pub inside : s.to ≤ n

-- the index k lies in a span
pub record IsIn (s : Span) (k : ℕ) : Type 0 where
  pub low : s.from ≤ k
  pub high : k < s.to

-- new has in a span what f gives of the index and the old byte, and is else as old
pub record IsPlanePainted (f : ℕ → ℕ → ℕ) (s : Span) (old new : List ℕ) : Type 0 where
  pub width : length new ≡ length old
  pub inside : (k : ℕ) → IsIn s k → slice_index new k ≡ f k (slice_index old k)
  pub before : (k : ℕ) → k < s.from → slice_index new k ≡ slice_index old k
  pub after : (k : ℕ) → s.to ≤ k → slice_index new k ≡ slice_index old k

-- new has in a span what f gives of the index and the old colour, and is else as old
pub record IsPainted (f : ℕ → Px → Px) (s : Span) (old new : LineModel) : Type 0 where
  pub width : width new ≡ width old
  pub inside : (k : ℕ) → IsIn s k → pixel new k ≡ f k (pixel old k)
  pub before : (k : ℕ) → k < s.from → pixel new k ≡ pixel old k
  pub after : (k : ℕ) → s.to ≤ k → pixel new k ≡ pixel old k
