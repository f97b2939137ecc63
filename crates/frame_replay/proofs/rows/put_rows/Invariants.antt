use Rattle.std.proofs.Common.{◌≡◌, ◌≤◌, ◌++◌}
use Rattle.std.specs.List.{flat_map}
use Rattle.blend_rules.specs.Colour.{colour_bytes}
use Rattle.span_kernels.specs.PlanesModel.{pixel_at}
use Rattle.frame_replay.specs.Frame.{row_by_row}
use Rattle.frame_replay.proofs.rows.put_rows.Given as goal

-- the rows so far are put
abbrev pub invariant-loop-y : goal.invariant-loop-y
invariant-loop-y l = record { put : l.out.items ≡ l.fn.out.items ++ flat_map colour_bytes (row_by_row l.planes.width l.y (pixel_at l.planes)); last : l.y ≤ l.height }
