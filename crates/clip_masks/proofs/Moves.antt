-- Rectangle clips, and clips that are moved.
use Rattle.std.proofs.Common.{◌≡◌, ℕ, ℤ, pos, ◌+ℤ◌, ◌-ℤ◌, Bool, true, false, ◌&&◌, not, if◌then◌else◌, refl, sym, ap, ap₂, ◌∙◌, arith}
use Rattle.std.proofs.lemmas.Int.{ints}
use Rattle.std.proofs.lemmas.Bool.{or_from}
use Rattle.wr_geom.specs.Bounds.{Bounds, holds, shifted}
use Rattle.wr_geom.specs.declared.point.Point.{Point}
use Rattle.wr_geom.specs.declared.sides.Radii.{Radii}
use Rattle.wr_geom.proofs.Points.{same_bounds, shifted_points}
use Rattle.clip_masks.specs.Outline.{Outline, eighths, enlarged, is_excluded, is_inside, samples_inside, shifted_outline}
use Rattle.wr_geom.specs.Sides.{square}
use Rattle.clip_masks.specs.Coverage.{coverage}
use Rattle.clip_masks.specs.Clips.{IsRectClip, rect_clip, shifted_clip}
use Rattle.clip_masks.specs.Laws.{ShiftedHasMovedSamples, ShiftedCoversMoved}
use Rattle.clip_masks.specs.declared.clip.Clip.{Clip}
use Rattle.clip_masks.proofs.Points.{excludes_beside, has_pixel, samples_beside, samples_whole}
use Rattle.clip_masks.proofs.Rows.{coverage_at}

-- ---- rectangle clips

square_pixel : (s : Outline) (x y : ℤ) → s.radii ≡ square → holds s.rect x y ≡ true → samples_inside s x y ≡ 16
square_pixel s x y e h =
    let k = has_pixel s.rect x y h in
    let tl = ap (λ (r : Radii). r.tl.0) e in
    let tr = ap (λ (r : Radii). r.tr.0) e in
    let br = ap (λ (r : Radii). r.br.0) e in
    let bl = ap (λ (r : Radii). r.bl.0) e in
    samples_whole s x y k
    (or_from _ _ (or_from _ _ (or_from _ _ (excludes_beside s.radii.tl _ _ (omega (arith, ints, k.left))) (excludes_beside s.radii.tr _ _ (omega (arith, ints, k.right))))
    (excludes_beside s.radii.br _ _ (omega (arith, ints, k.right)))) (excludes_beside s.radii.bl _ _ (omega (arith, ints, k.left))))

square_by : (c : Clip) (x y : ℤ) (t : Bool) → IsRectClip c → holds c.shape.rect x y ≡ t → coverage c x y ≡ (if t then 255 else 0)
square_by c x y true is h = coverage_at c x y false 16 is.inwards (square_pixel c.shape x y is.corners h)
square_by c x y false is h = coverage_at c x y false 0 is.inwards (samples_beside c.shape x y h)

-- a rectangle clip covers all or nothing
pub rect_coverage : (c : Clip) (x y : ℤ) → IsRectClip c → coverage c x y ≡ (if holds c.shape.rect x y then 255 else 0)
rect_coverage c x y is = square_by c x y (holds c.shape.rect x y) is refl

-- the rectangle clip on a rectangle
pub rect_clip_coverage : (b : Bounds) (x y : ℤ) → coverage (rect_clip b) x y ≡ (if holds b x y then 255 else 0)
rect_clip_coverage b x y = rect_coverage (rect_clip b) x y (record { inwards = refl; corners = refl })

-- ---- moves

-- shapes with the same samples in two pixels have the same count there
samples_same : (s t : Outline) (x y v w : ℤ) → ((i j : ℕ) → is_inside s (eighths x +ℤ pos i) (eighths y +ℤ pos j) ≡ is_inside t (eighths v +ℤ pos i) (eighths w +ℤ pos j)) → samples_inside s x y ≡ samples_inside t v w
unfolding samples_inside
samples_same s t x y v w f =
    rw (f 1 1, f 3 1, f 5 1, f 7 1, f 1 3, f 3 3, f 5 3, f 7 3, f 1 5, f 3 5, f 5 5, f 7 5, f 1 7, f 3 7, f 5 7, f 7 7)

in_eighths : Point → Point
in_eighths by = record { x = eighths by.x; y = eighths by.y }

from_left : (z d p : ℤ) (r i : ℕ) → eighths ((z +ℤ d) +ℤ pos r) -ℤ (eighths (p +ℤ d) +ℤ pos i) ≡ eighths (z +ℤ pos r) -ℤ (eighths p +ℤ pos i)
from_left z d p r i = omega (arith, ints)

from_right : (z d p : ℤ) (r i : ℕ) → (eighths (p +ℤ d) +ℤ pos i) -ℤ eighths ((z +ℤ d) -ℤ pos r) ≡ (eighths p +ℤ pos i) -ℤ eighths (z -ℤ pos r)
from_right z d p r i = omega (arith, ints)

coordinate_moved : (p d : ℤ) (i : ℕ) → eighths (p +ℤ d) +ℤ pos i ≡ (eighths p +ℤ pos i) +ℤ eighths d
coordinate_moved p d i = omega (arith, ints)

edge_moved : (z d : ℤ) → eighths (z +ℤ d) ≡ eighths z +ℤ eighths d
edge_moved z d = omega (arith, ints)

rect_moved : (b : Bounds) (by : Point) (x y : ℤ) (i j : ℕ) → holds (enlarged (shifted b by)) (eighths (x +ℤ by.x) +ℤ pos i) (eighths (y +ℤ by.y) +ℤ pos j) ≡ holds (enlarged b) (eighths x +ℤ pos i) (eighths y +ℤ pos j)
unfolding in_eighths
rect_moved b by x y i j =
    ap (λ (r : Bounds). holds r (eighths (x +ℤ by.x) +ℤ pos i) (eighths (y +ℤ by.y) +ℤ pos j)) (same_bounds (enlarged (shifted b by)) (shifted (enlarged b) (in_eighths by)) (edge_moved b.x0 by.x) (edge_moved b.y0 by.y) (edge_moved b.x1 by.x) (edge_moved b.y1 by.y))
    ∙ ap₂ (λ (v w : ℤ). holds (shifted (enlarged b) (in_eighths by)) v w) (coordinate_moved x by.x i) (coordinate_moved y by.y j)
    ∙ shifted_points (enlarged b) (in_eighths by) (eighths x +ℤ pos i) (eighths y +ℤ pos j)

excluded_moved : (s : Outline) (by : Point) (x y : ℤ) (i j : ℕ) → is_excluded (record { rect = shifted s.rect by; radii = s.radii }) (eighths (x +ℤ by.x) +ℤ pos i) (eighths (y +ℤ by.y) +ℤ pos j) ≡ is_excluded s (eighths x +ℤ pos i) (eighths y +ℤ pos j)
excluded_moved s by x y i j =
    let b = s.rect in
    let r = s.radii in
    rw (
      from_left b.x0 by.x x r.tl.0 i,
      from_left b.y0 by.y y r.tl.1 j,
      from_right b.x1 by.x x r.tr.0 i,
      from_left b.y0 by.y y r.tr.1 j,
      from_right b.x1 by.x x r.br.0 i,
      from_right b.y1 by.y y r.br.1 j,
      from_left b.x0 by.x x r.bl.0 i,
      from_right b.y1 by.y y r.bl.1 j,
    )

inside_moved : (s : Outline) (by : Point) (x y : ℤ) (i j : ℕ) → is_inside (record { rect = shifted s.rect by; radii = s.radii }) (eighths (x +ℤ by.x) +ℤ pos i) (eighths (y +ℤ by.y) +ℤ pos j) ≡ is_inside s (eighths x +ℤ pos i) (eighths y +ℤ pos j)
unfolding is_inside
inside_moved s by x y i j = ap₂ (λ (p q : Bool). p && not q) (rect_moved s.rect by x y i j) (excluded_moved s by x y i j)

pub shifted_samples : ShiftedHasMovedSamples
shifted_samples s by x y = samples_same (shifted_outline s by) s (x +ℤ by.x) (y +ℤ by.y) x y (λ i j. inside_moved s by x y i j)

pub shifted_coverage : ShiftedCoversMoved
shifted_coverage c by x y =
    coverage_at (shifted_clip c by) (x +ℤ by.x) (y +ℤ by.y) c.out (samples_inside c.shape x y) refl (shifted_samples c.shape by x y)
    ∙ sym (coverage_at c x y c.out (samples_inside c.shape x y) refl refl)
