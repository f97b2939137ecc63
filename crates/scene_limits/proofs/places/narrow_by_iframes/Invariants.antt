use Rattle.std.proofs.Common.{◌≡◌, ◌&&◌, drop}
use Rattle.std.specs.List.{list_all}
use Rattle.wr_geom.specs.declared.point.Point.{Point}
use Rattle.scene_limits.specs.Rooms.{room_has, rooms_have, iframe_reaches}
use Rattle.scene_limits.proofs.places.narrow_by_iframes.Given as goal

-- what is left, from here, allows what all allows
abbrev pub invariant-loop-iframe : goal.invariant-loop-iframe
invariant-loop-iframe l =
    (origin : Point) → (room_has l.sum origin && list_all (iframe_reaches (rooms_have l.rooms) l.offsets origin) (drop l.iframe-index l.iframes))
    ≡ (room_has l.initial.sum origin && list_all (iframe_reaches (rooms_have l.rooms) l.offsets origin) l.iframes)
