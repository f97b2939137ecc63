use Rattle.std.proofs.Common.{◌≡◌, ◌≤◌, ◌++◌}
use Rattle.std.specs.List.{flat_map}
use Rattle.frame_replay.specs.Drawn.{drawn_below, entry_bytes}
use Rattle.frame_replay.proofs.drawn.put_entries.Given as goal

-- those so far are put
abbrev pub invariant-loop-pipeline : goal.invariant-loop-pipeline
invariant-loop-pipeline l = record { put : l.out.items ≡ l.fn.out.items ++ flat_map entry_bytes (drawn_below l.pipeline l.scene.pipelines); last : l.pipeline ≤ 64 }
