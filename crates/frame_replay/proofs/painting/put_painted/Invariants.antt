use Rattle.std.proofs.Common.{◌≡◌, ◌≤◌, ◌++◌}
use Rattle.std.specs.List.{flat_map}
use Rattle.blend_rules.specs.Colour.{colour_bytes}
use Rattle.frame_replay.specs.Frame.{pixel_at, row_by_row}
use Rattle.frame_replay.proofs.painting.put_painted.Given as goal

-- the rows so far are put
abbrev pub invariant-loop-y : goal.invariant-loop-y
invariant-loop-y l = record { put : l.out.items ≡ l.fn.out.items ++ flat_map colour_bytes (row_by_row l.scene.view.0 l.y (pixel_at l.scene)); last : l.y ≤ l.height }
