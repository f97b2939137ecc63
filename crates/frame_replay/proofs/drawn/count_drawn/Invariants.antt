use Rattle.std.proofs.Common.{◌≡◌, ◌≤◌, length}
use Rattle.frame_replay.specs.Drawn.{drawn_below}
use Rattle.frame_replay.proofs.drawn.count_drawn.Given as goal

-- so many are drawn of those so far
abbrev pub invariant-loop-pipeline : goal.invariant-loop-pipeline
invariant-loop-pipeline l = record { count : l.count ≡ length (drawn_below l.pipeline l.scene.pipelines); low : l.count ≤ l.pipeline; last : l.pipeline ≤ 64 }
