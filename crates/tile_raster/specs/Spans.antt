-- Strips of rows that stand in the plane of all points, and the parts of them in which entries show.
use Rattle.std.specs.Prelude.{◌≡◌, ℕ, ◌^◌, ◌<◌, ◌≤◌, ◌⊎◌, ℤ, pos, neg_ℤ, ◌+ℤ◌, ◌≤ℤ◌, ◌<ℤ◌, IsTrue, IsFalse, List, if◌then◌else◌, slice_index}
use Rattle.wr_geom.specs.Bounds.{Bounds, holds}
use Rattle.wr_geom.specs.declared.point.Point.{Point}
use Rattle.blend_rules.specs.declared.colour.Px.{Px}
use Rattle.clip_masks.specs.Coverage.{chain_coverage}
use Rattle.clip_masks.specs.declared.clip.Clip.{Clip}
use Rattle.batching.specs.Depths.{Depths, depth_at, is_at_most}
use Rattle.tile_raster.specs.declared.span.Span.{Span}
use Rattle.tile_raster.specs.declared.strip.Strip.{Strip}
use Rattle.tile_raster.specs.Rows.{IsSpan, IsIn}

-- where the first pixel of a row can lie: among the coordinates of rectangles
pub record IsFirst (p : Point) : Type 0 where
  pub left : neg_ℤ (pos (2 ^ 29)) ≤ℤ p.x
  pub right : p.x ≤ℤ pos (2 ^ 29)
  pub top : neg_ℤ (pos (2 ^ 29)) ≤ℤ p.y
  pub bottom : p.y <ℤ pos (2 ^ 29)

-- the x of the pixel at an index of a row
abbrev pub x_of : Point → ℕ → ℤ
x_of first k = first.x +ℤ pos k

-- a span of a row of so many pixels, which stands in the plane
pub record IsStrip (s : Strip) (n : ℕ) : Type 0 where
  pub first : IsFirst s.first
  pub reach : (s.first.x +ℤ pos s.span.to) ≤ℤ pos (2 ^ 29)
  pub span : IsSpan s.span n

-- how much clips leave of a row's pixel, of 255
abbrev pub coverage_at : List Clip → Point → ℕ → ℕ
coverage_at clips first k = chain_coverage clips 255 (x_of first k) first.y

-- a row's pixel lies in a rectangle
abbrev pub HoldsPixel : Bounds → Point → ℕ → Type 0
HoldsPixel b first k = IsTrue (holds b (x_of first k) first.y)

-- the part of a strip that lies in a rectangle
pub record IsCut (b : Bounds) (s : Strip) (r : Span) : Type 0 where
  pub left : s.span.from ≤ r.from
  pub order : r.from ≤ r.to
  pub right : r.to ≤ s.span.to
  pub inside : (k : ℕ) → IsIn r k → HoldsPixel b s.first k
  pub outside : (k : ℕ) → IsIn s.span k → (k < r.from) ⊎ (r.to ≤ k) → IsFalse (holds b (x_of s.first k) s.first.y)

-- a part of a span in which each byte of a mask is 255
pub record IsFullRun (mask : List ℕ) (s r : Span) : Type 0 where
  pub left : s.from ≤ r.from
  pub some : r.from < r.to
  pub right : r.to ≤ s.to
  pub full : (k : ℕ) → IsIn r k → slice_index mask k ≡ 255

-- where no greater depth covers the pixel at an index, what f gives; else the old colour
abbrev pub painted_above : (ℕ → Px → Px) → ℕ → Depths → ℕ → Px → Px
painted_above f limit cover k d = if is_at_most limit (depth_at cover k) then f k d else d
