-- Rectangles that lie in a frame.
use Rattle.std.proofs.Common.{ℤ, pos, ◌≤ℤ◌, ◌<ℤ◌, ◌-ℤ◌, IsTrue, arith}
use Rattle.std.proofs.lemmas.Int.{ints}
use Rattle.wr_geom.specs.Bounds.{Bounds, Covers, has_points}
use Rattle.wr_geom.proofs.Points.{inside, holds_it, has_sides}
use Rattle.span_kernels.specs.PlanesModel.{PlanesModel}
use Rattle.tile_compositor.specs.Laid.{frame_rect}

-- the edges of a rectangle that has points lie in a frame
pub record AreEdges (planes : PlanesModel) (rect : Bounds) : Type 0 where
  pub left : pos 0 ≤ℤ rect.x0
  pub across : rect.x0 <ℤ rect.x1
  pub right : rect.x1 ≤ℤ pos planes.width
  pub top : pos 0 ≤ℤ rect.y0
  pub down : rect.y0 <ℤ rect.y1
  pub bottom : rect.y1 ≤ℤ pos planes.height

pub edges : (planes : PlanesModel) (rect : Bounds) → IsTrue (has_points rect) → Covers (frame_rect planes) rect → AreEdges planes rect
edges planes rect points covers =
    let s = has_sides rect points in
    let a = s.across in
    let d = s.down in
    let first = inside (frame_rect planes) rect.x0 rect.y0 (covers rect.x0 rect.y0 (holds_it rect rect.x0 rect.y0 (record { left = omega (arith, ints); right = a; top = omega (arith, ints); bottom = d }))) in
    let x : ℤ = rect.x1 -ℤ pos 1 in
    let y : ℤ = rect.y1 -ℤ pos 1 in
    let last = inside (frame_rect planes) x y (covers x y (holds_it rect x y (record { left = omega (arith, ints, a); right = omega (arith, ints); top = omega (arith, ints, d); bottom = omega (arith, ints) }))) in
    let r = last.right in
    let b = last.bottom in
    record { left = first.left; across = a; right = omega (arith, ints, r); top = first.top; down = d; bottom = omega (arith, ints, b) }
