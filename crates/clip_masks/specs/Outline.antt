-- Rounded rectangles, and which of a pixel's sixteen sample points lie in one.
use Rattle.std.specs.Prelude.{ℕ, ◌+◌, ◌-◌, ◌*◌, ◌/◌, ℤ, pos, ◌+ℤ◌, ◌-ℤ◌, ◌*ℤ◌, Bool, ◌&&◌, ◌||◌, not, int_lt, nat_lt, unsigned_abs, List, [], ◌∷◌, map}
use Rattle.std.specs.List.{count_by, flat_map}
use Rattle.wr_geom.specs.Bounds.{Bounds, holds, shifted}
use Rattle.wr_geom.specs.declared.point.Point.{Point}
use Rattle.wr_geom.specs.declared.sides.Radii.{Radii}
use Rattle.wr_geom.specs.declared.sides.Widths.{Widths}

-- a rectangle with the radii of its four corners
pub record Outline : Type 0 where
  pub rect : Bounds
  pub radii : Radii

-- a number of pixels in eighths of a pixel
abbrev pub eighths : ℤ → ℤ
eighths z = pos 8 *ℤ z

-- the coordinates of a pixel's four sample lines on one axis, in eighths of a pixel
abbrev pub sample_coordinates : ℤ → List ℤ
sample_coordinates z = (eighths z +ℤ pos 1) ∷ ((eighths z +ℤ pos 3) ∷ ((eighths z +ℤ pos 5) ∷ ((eighths z +ℤ pos 7) ∷ [])))

-- the sixteen sample points of the pixel (x, y), in eighths of a pixel
abbrev pub sample_points : ℤ → ℤ → List (ℤ × ℤ)
sample_points x y = flat_map (λ b. map (λ a. (a, b)) (sample_coordinates x)) (sample_coordinates y)

-- a number times itself
abbrev pub squared : ℕ → ℕ
squared n = n * n

-- whether a point so far from the centre of an ellipse with these radii lies beyond it
unfoldable pub is_beyond : ℕ → ℕ → ℕ → ℕ → Bool
is_beyond rx ry dx dy = nat_lt (squared rx * squared ry) (squared dx * squared ry + squared dy * squared rx)

-- whether a corner with these radii in pixels excludes a point so many eighths beyond the corner's centre
unfoldable pub excludes : ℕ × ℕ → ℤ → ℤ → Bool
excludes r dx dy =
    int_lt (pos 0) dx && int_lt (pos 0) dy && is_beyond (8 * r.0) (8 * r.1) (unsigned_abs dx) (unsigned_abs dy)

-- whether a corner excludes the point (a, b), in eighths of a pixel
abbrev pub is_excluded : Outline → ℤ → ℤ → Bool
is_excluded s a b =
    let left = λ (rx : ℕ). eighths (s.rect.x0 +ℤ pos rx) -ℤ a in
    let right = λ (rx : ℕ). a -ℤ eighths (s.rect.x1 -ℤ pos rx) in
    let top = λ (ry : ℕ). eighths (s.rect.y0 +ℤ pos ry) -ℤ b in
    let bottom = λ (ry : ℕ). b -ℤ eighths (s.rect.y1 -ℤ pos ry) in
    let r = s.radii in
    excludes r.tl (left r.tl.0) (top r.tl.1)
    || excludes r.tr (right r.tr.0) (top r.tr.1)
    || excludes r.br (right r.br.0) (bottom r.br.1)
    || excludes r.bl (left r.bl.0) (bottom r.bl.1)

-- the rectangle in eighths of a pixel
abbrev pub enlarged : Bounds → Bounds
enlarged b = record { x0 = eighths b.x0; y0 = eighths b.y0; x1 = eighths b.x1; y1 = eighths b.y1 }

-- whether the point (a, b), in eighths of a pixel, lies in the rectangle and no corner excludes it
unfoldable pub is_inside : Outline → ℤ → ℤ → Bool
is_inside s a b = holds (enlarged s.rect) a b && not (is_excluded s a b)

-- how many of the sixteen sample points of the pixel (x, y) lie inside
unfoldable pub samples_inside : Outline → ℤ → ℤ → ℕ
samples_inside s x y = count_by (λ p. is_inside s p.0 p.1) (sample_points x y)

-- n of sixteen samples as a share of 255, rounded to the nearest
abbrev pub share : ℕ → ℕ
share n = (255 * n + 8) / 16

-- a corner's radii, each less the width beside it
abbrev pub lessened : ℕ × ℕ → ℕ → ℕ → ℕ × ℕ
lessened r across down = (r.0 - across, r.1 - down)

-- the rectangle less the widths of its sides
abbrev pub shrunk_by : Bounds → Widths → Bounds
shrunk_by b w = record {
  x0 = b.x0 +ℤ pos w.left;
  y0 = b.y0 +ℤ pos w.top;
  x1 = b.x1 -ℤ pos w.right;
  y1 = b.y1 -ℤ pos w.bottom;
}

-- the rectangle shrunk by the widths, with each radius less the width beside it
abbrev pub inset_of : Outline → Widths → Outline
inset_of s w = record {
  rect = shrunk_by s.rect w;
  radii = record {
    tl = lessened s.radii.tl w.left w.top;
    tr = lessened s.radii.tr w.right w.top;
    br = lessened s.radii.br w.right w.bottom;
    bl = lessened s.radii.bl w.left w.bottom;
  };
}

-- the shape moved by a number of pixels
abbrev pub shifted_outline : Outline → Point → Outline
shifted_outline s by = record { rect = shifted s.rect by; radii = s.radii }
