use Rattle.std.proofs.Common.{◌-◌}
use Rattle.scene_limits.proofs.Levels.{IsTable}
use Rattle.scene_limits.specs.Drawn.{is_marked}
use Rattle.scene_limits.proofs.totals.scene_totals.Given as goal

-- from the last pipeline that was counted on
abbrev pub invariant-loop-step : goal.invariant-loop-step
invariant-loop-step l = IsTable (is_marked l.reached) l.table l.pipelines (64 - l.step)
