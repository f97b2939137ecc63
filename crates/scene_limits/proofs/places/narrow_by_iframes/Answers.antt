use Rattle.scene_limits.specs.Rooms.{room_has, rooms_have, iframe_reaches}
use Rattle.scene_limits.proofs.Walks.{more_all}
use Rattle.scene_limits.proofs.places.narrow_by_iframes.Goals as goal

pub loop-iframe-preserved : goal.loop-iframe-preserved
loop-iframe-preserved c = λ origin.
    more_all (iframe_reaches (rooms_have c.args.rooms.now) c.args.offsets.now origin) c.args.iframes.now c.loop-iframe.iframe-index _ (room_has c.loop-iframe.sum origin) (room_has c.narrow_by_iframe-sum.result origin) _
    c.loop-iframe-test.true (c.narrow_by_iframe-sum.ensures origin) (c.loop-iframe.invariant origin)
