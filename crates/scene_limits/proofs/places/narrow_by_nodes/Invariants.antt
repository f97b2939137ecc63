use Rattle.std.proofs.Common.{◌≡◌, ◌&&◌, drop}
use Rattle.wr_geom.specs.declared.point.Point.{Point}
use Rattle.scene_limits.specs.Limits.{is_point_in_reach}
use Rattle.scene_limits.specs.Rooms.{room_has, nodes_reach}
use Rattle.scene_limits.proofs.places.narrow_by_nodes.Given as goal

abbrev pub invariant-loop-offset : goal.invariant-loop-offset
invariant-loop-offset l = (origin : Point) → (room_has l.room origin && nodes_reach (drop l.offset-index l.offsets) origin) ≡ (is_point_in_reach origin && nodes_reach l.offsets origin)
