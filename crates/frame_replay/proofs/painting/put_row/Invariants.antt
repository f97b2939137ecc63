use Rattle.std.proofs.Common.{◌≡◌, ◌≤◌, ◌++◌}
use Rattle.std.specs.List.{flat_map}
use Rattle.blend_rules.specs.Colour.{colour_bytes}
use Rattle.frame_replay.specs.Frame.{row_pixels}
use Rattle.frame_replay.proofs.painting.put_row.Given as goal

-- the pixels so far are put
abbrev pub invariant-loop-x : goal.invariant-loop-x
invariant-loop-x l = record { put : l.out.items ≡ l.fn.out.items ++ flat_map colour_bytes (row_pixels l.scene l.y l.x); last : l.x ≤ l.width }
