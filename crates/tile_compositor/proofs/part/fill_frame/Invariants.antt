use Rattle.std.proofs.Common.{◌≡◌, ◌<◌, ◌≤◌, ℕ}
use Rattle.span_kernels.specs.PlanesModel.{pixel_at}
use Rattle.tile_compositor.specs.Laid.{KeepSides}
use Rattle.tile_compositor.proofs.part.fill_frame.Given as goal

-- the rows so far are filled
abbrev pub invariant-loop-y : goal.invariant-loop-y
invariant-loop-y l = record {
  sides : KeepSides l.fn.planes l.planes;
  each : (x y : ℕ) → x < l.planes.width → y < l.y → pixel_at l.planes x y ≡ l.colour;
  high : l.y ≤ l.fn.planes.height;
}
