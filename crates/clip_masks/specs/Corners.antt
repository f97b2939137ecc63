-- Boxes of sample points against a shape's corners.
use Rattle.std.specs.Prelude.{◌≡◌, ℕ, ◌^◌, ◌+◌, ◌*◌, ℤ, pos, neg_ℤ, ◌+ℤ◌, ◌-ℤ◌, ◌≤ℤ◌, ◌<ℤ◌, Bool, ◌||◌}
use Rattle.wr_geom.specs.Bounds.{Bounds}
use Rattle.clip_masks.specs.Outline.{Outline, eighths, excludes}
use Rattle.clip_masks.specs.declared.corner.Outward.{Outward}
use Rattle.clip_masks.specs.declared.side.Side.{Side}

-- a distance inward, or none, of at most two to the 40th eighths of a pixel
pub record IsInward (z : ℤ) : Type 0 where
  pub low : neg_ℤ (pos (2 ^ 40)) ≤ℤ z
  pub high : z ≤ℤ pos 0

-- the point (a, b), in eighths of a pixel, lies in the rectangle
pub record LiesWithin (r : Bounds) (a b : ℤ) : Type 0 where
  pub left : eighths r.x0 ≤ℤ a
  pub right : a <ℤ eighths r.x1
  pub top : eighths r.y0 ≤ℤ b
  pub bottom : b <ℤ eighths r.y1

-- the pixel (x, y) lies in the rectangle
pub record HasPixel (r : Bounds) (x y : ℤ) : Type 0 where
  pub left : r.x0 ≤ℤ x
  pub right : x <ℤ r.x1
  pub top : r.y0 ≤ℤ y
  pub bottom : y <ℤ r.y1

-- whether a corner excludes its own corner of the box from (a, b) to (c, d), in eighths of a pixel
abbrev pub excludes_tip : Outline → ℤ → ℤ → ℤ → ℤ → Bool
excludes_tip s a b c d =
    let left = λ (rx : ℕ). eighths (s.rect.x0 +ℤ pos rx) -ℤ a in
    let right = λ (rx : ℕ). c -ℤ eighths (s.rect.x1 -ℤ pos rx) in
    let top = λ (ry : ℕ). eighths (s.rect.y0 +ℤ pos ry) -ℤ b in
    let bottom = λ (ry : ℕ). d -ℤ eighths (s.rect.y1 -ℤ pos ry) in
    let r = s.radii in
    excludes r.tl (left r.tl.0) (top r.tl.1)
    || excludes r.tr (right r.tr.0) (top r.tr.1)
    || excludes r.br (right r.br.0) (bottom r.br.1)
    || excludes r.bl (left r.bl.0) (bottom r.bl.1)

-- how far the box from (a, b) to (c, d), in eighths of a pixel, lies outward of the four edges
pub record IsOutward (r : Bounds) (a b c d : ℤ) (o : Outward) : Type 0 where
  pub left : o.left ≡ eighths r.x0 -ℤ a
  pub top : o.top ≡ eighths r.y0 -ℤ b
  pub right : o.right ≡ c -ℤ eighths r.x1
  pub bottom : o.bottom ≡ d -ℤ eighths r.y1
  pub beside : IsInward o.left
  pub above : IsInward o.top
  pub beyond : IsInward o.right
  pub below : IsInward o.bottom

-- how far a point i eighths beyond so many pixels inward lies outward
abbrev pub outward : ℕ → ℕ → ℤ
outward pixels i = neg_ℤ (pos (8 * pixels + i))

-- whether a corner of a side excludes the sample at i eighths inward of its pixel k, on both axes
unfoldable pub side_excludes : Side → ℕ → ℕ → Bool
side_excludes s k i =
    excludes s.top (outward k i +ℤ eighths (pos s.top.0)) (outward s.above i +ℤ eighths (pos s.top.1))
    || excludes s.bottom (outward k i +ℤ eighths (pos s.bottom.0)) (outward s.below i +ℤ eighths (pos s.bottom.1))
