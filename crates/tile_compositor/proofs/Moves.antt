-- Rectangles of a slice's coordinates, as they lie in a frame.
use Rattle.std.proofs.Common.{◌≡◌, ℤ, pos, neg_ℤ, ◌+ℤ◌, ◌-ℤ◌, ◌<◌, ◌^◌, ℕ, Bool, ◌&&◌, IsTrue, sym, ap, ap₂, true≢false, ◌∙◌, arith}
use Rattle.std.proofs.lemmas.Int.{ints}
use Rattle.std.proofs.lemmas.Bool.{and_parts}
use Rattle.wr_geom.specs.Bounds.{Bounds, Covers, HasNoPoint, IsInRange, holds, has_points, intersection, shifted}
use Rattle.wr_geom.specs.declared.point.Point.{Point}
use Rattle.wr_geom.proofs.Points.{has_sides, sides_has, around, intersection_points, shifted_points}
use Rattle.span_kernels.specs.PlanesModel.{PlanesModel}
use Rattle.tile_grid.specs.Grids.{HasTileRoom, IsWithinReach, in_slice}
use Rattle.tile_compositor.specs.declared.part.Part.{Part}
use Rattle.tile_compositor.specs.declared.placed.Placed.{Placed}
use Rattle.tile_compositor.specs.Laid.{bounds_of, frame_rect, lies_in}
use Rattle.tile_compositor.specs.Composition.{IsPartOver, shows_in}
use Rattle.tile_compositor.proofs.Parts.{AreEdges, edges}

back_again : (a b : ℤ) → ((a -ℤ b) +ℤ b) ≡ a
back_again a b = omega (arith, ints)

minus_is : (a b : ℤ) → (a +ℤ neg_ℤ b) ≡ (a -ℤ b)
minus_is a b = omega (arith, ints)

-- a point lies in a moved rectangle where the point moved back lies in the rectangle
pub moved_holds : (b : Bounds) (by : Point) (x y : ℤ) → holds (shifted b by) x y ≡ holds b (x -ℤ by.x) (y -ℤ by.y)
moved_holds b by x y = ap₂ (λ (u v : ℤ). holds (shifted b by) u v) (sym (back_again x by.x)) (sym (back_again y by.y)) ∙ shifted_points b by (x -ℤ by.x) (y -ℤ by.y)

pub slice_holds : (b : Bounds) (origin : Point) (x y : ℤ) → holds (in_slice b origin) (x -ℤ origin.x) (y -ℤ origin.y) ≡ holds b x y
slice_holds b origin x y = ap₂ (λ (u v : ℤ). holds (in_slice b origin) u v) (sym (minus_is x origin.x)) (sym (minus_is y origin.y)) ∙ shifted_points b (record { x = neg_ℤ origin.x; y = neg_ℤ origin.y }) x y

pub slice_points : (b : Bounds) (origin : Point) → IsTrue (has_points b) → IsTrue (has_points (in_slice b origin))
slice_points b origin h = let s = has_sides b h in let a = s.across in let d = s.down in
    sides_has (in_slice b origin) (record { across = omega (arith, ints); down = omega (arith, ints) })

module _ (p : Placed) (rect : Bounds) where
  -- the part of a rectangle of the slice's coordinates where the slice shows
  abbrev pub shown_part : Bounds
  shown_part = intersection rect (in_slice p.shown p.origin)

  pub part_holds : (x y : ℕ) → lies_in (shifted shown_part p.origin) x y ≡ shows_in p rect x y
  part_holds x y =
      moved_holds shown_part p.origin (pos x) (pos y)
      ∙ intersection_points rect (in_slice p.shown p.origin) (pos x -ℤ p.origin.x) (pos y -ℤ p.origin.y)
      ∙ ap (λ (b : Bool). holds rect (pos x -ℤ p.origin.x) (pos y -ℤ p.origin.y) && b) (slice_holds p.shown p.origin (pos x) (pos y))

  -- where it has no point, the slice shows nothing there
  pub nothing_shows : HasNoPoint shown_part → (x y : ℕ) → IsTrue (shows_in p rect x y) → ⊥
  nothing_shows none x y h = true≢false (sym (sym (moved_holds shown_part p.origin (pos x) (pos y)) ∙ part_holds x y ∙ h) ∙ none (pos x -ℤ p.origin.x) (pos y -ℤ p.origin.y))

  module _ (frame : PlanesModel) (shows : Covers (frame_rect frame) p.shown) where
    -- it lies in the frame
    pub part_covered : Covers (frame_rect frame) (shifted shown_part p.origin)
    part_covered x y h =
        let there : IsTrue (holds shown_part (x -ℤ p.origin.x) (y -ℤ p.origin.y)) = sym (moved_holds shown_part p.origin x y) ∙ h in
        let both = and_parts (holds rect (x -ℤ p.origin.x) (y -ℤ p.origin.y)) (holds (in_slice p.shown p.origin) (x -ℤ p.origin.x) (y -ℤ p.origin.y))
        (sym (intersection_points rect (in_slice p.shown p.origin) (x -ℤ p.origin.x) (y -ℤ p.origin.y)) ∙ there) in
        shows x y (sym (slice_holds p.shown p.origin x y) ∙ both.1)

    moved_points : IsTrue (has_points shown_part) → IsTrue (has_points (shifted shown_part p.origin))
    moved_points h = let s = has_sides shown_part h in let a = s.across in let d = s.down in
        sides_has (shifted shown_part p.origin) (record { across = omega (arith, ints); down = omega (arith, ints) })

    pub part_edges : IsTrue (has_points shown_part) → AreEdges frame (shifted shown_part p.origin)
    part_edges h = edges frame (shifted shown_part p.origin) (moved_points h) part_covered

    pub part_points : IsTrue (has_points shown_part) → IsTrue (has_points (shifted shown_part p.origin))
    part_points = moved_points

    pub part_in_range : frame.width < 2 ^ 16 → frame.height < 2 ^ 16 → IsTrue (has_points shown_part) → IsInRange (shifted shown_part p.origin)
    part_in_range wide high h =
        let e = part_edges h in
        let a = e.left in let b = e.across in let c = e.right in let d = e.top in let f = e.down in let g = e.bottom in
        record {
          left = record { low = omega (arith, ints); high = omega (arith, ints) };
          top = record { low = omega (arith, ints); high = omega (arith, ints) };
          right = record { low = omega (arith, ints); high = omega (arith, ints) };
          bottom = record { low = omega (arith, ints); high = omega (arith, ints) };
        }

    rect_covers : Covers rect shown_part
    rect_covers x y h = (and_parts (holds rect x y) (holds (in_slice p.shown p.origin) x y) (sym (intersection_points rect (in_slice p.shown p.origin) x y) ∙ h)).0

    pub part_over : (part : Part) → bounds_of part ≡ shifted shown_part p.origin → IsTrue (has_points shown_part) → IsPartOver rect p.origin part
    part_over part is h =
        let w = around rect shown_part (has_sides shown_part h) rect_covers in
        let a = w.left in let b = w.right in let c = w.top in let d = w.bottom in
        let left = ap (λ (r : Bounds). r.x0) is in let right = ap (λ (r : Bounds). r.x1) is in
        let top = ap (λ (r : Bounds). r.y0) is in let bottom = ap (λ (r : Bounds). r.y1) is in
        record { left = omega (arith, ints); right = omega (arith, ints); top = omega (arith, ints); bottom = omega (arith, ints) }

module _ (p : Placed) (frame : PlanesModel) (origin : IsWithinReach p.origin) (shows : Covers (frame_rect frame) p.shown) (wide : frame.width < 2 ^ 16) (high : frame.height < 2 ^ 16) (points : IsTrue (has_points p.shown)) where
  -- what a slice shows, in its own coordinates, is in range
  pub shown_in_range : IsInRange (in_slice p.shown p.origin)
  shown_in_range =
      let e = edges frame p.shown points shows in
      let a = e.left in let b = e.across in let c = e.right in let d = e.top in let f = e.down in let g = e.bottom in
      let h = origin.left in let i = origin.right in let j = origin.top in let k = origin.bottom in
      record {
        left = record { low = omega (arith, ints); high = omega (arith, ints) };
        top = record { low = omega (arith, ints); high = omega (arith, ints) };
        right = record { low = omega (arith, ints); high = omega (arith, ints) };
        bottom = record { low = omega (arith, ints); high = omega (arith, ints) };
      }

  -- and has room for tiles
  pub shown_has_room : HasTileRoom (in_slice p.shown p.origin)
  shown_has_room =
      let e = edges frame p.shown points shows in
      let a = e.left in let b = e.across in let c = e.right in let d = e.top in let f = e.down in let g = e.bottom in
      let h = origin.left in let i = origin.right in let j = origin.top in let k = origin.bottom in
      record { left = omega (arith, ints); top = omega (arith, ints); right = omega (arith, ints); bottom = omega (arith, ints) }
