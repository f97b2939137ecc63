use Rattle.std.proofs.Common.{◌-◌}
use Rattle.scene_limits.proofs.Reaches.{AreRooms}
use Rattle.scene_limits.specs.Drawn.{is_marked}
use Rattle.scene_limits.proofs.places.is_scene_far.Given as goal

-- from the last pipeline that was placed on
abbrev pub invariant-loop-step : goal.invariant-loop-step
invariant-loop-step l = AreRooms (is_marked l.reached) l.rooms l.pipelines (64 - l.step)
