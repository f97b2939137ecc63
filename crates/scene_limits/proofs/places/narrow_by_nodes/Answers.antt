use Rattle.std.proofs.Common.{◌≡◌, ℤ, ◌&&◌, Bool, get_or, ap, ap₂, ◌∙◌, w32, w64, rules}
use mir.Val.{SFits}
use Rattle.wr_geom.specs.Points.{point_sum}
use Rattle.wr_geom.specs.declared.point.Point.{Point}
use Rattle.scene_limits.specs.Limits.{is_point_in_reach}
use Rattle.scene_limits.specs.Places.{zero_point}
use Rattle.scene_limits.specs.Rooms.{room_has}
use Rattle.scene_limits.proofs.Spans.{widened}
use Rattle.scene_limits.proofs.Walks.{more_all, all_all}
use Rattle.scene_limits.proofs.places.narrow_by_nodes.Goals as goal

pub loop-offset-preserved : goal.loop-offset-preserved
loop-offset-preserved c = λ origin.
    let os = c.args.offsets.now in
    let k = c.loop-offset.offset-index in
    let o : Point = get_or os k zero_point in
    let near = λ (p : Point). is_point_in_reach (point_sum origin p) in
    let fx : SFits w32 o.x = search rules in
    let fy : SFits w32 o.y = search rules in
    let gx : SFits w64 c.from.result = search rules in
    let gy : SFits w64 c.from-in-loop-offset.result = search rules in
    let narrowed : room_has c.narrowed-room.result origin ≡ (room_has c.loop-offset.room origin && near o) =
    c.narrowed-room.ensures origin
    ∙ ap (λ (b : Bool). room_has c.loop-offset.room origin && b)
    (c.all.ensures _ ∙ ap₂ (λ (p q : ℤ). near (record { x = p; y = q })) (widened o.x c.from.result fx gx c.from.ensures) (widened o.y c.from-in-loop-offset.result fy gy c.from-in-loop-offset.ensures)) in
    more_all near os k zero_point (room_has c.loop-offset.room origin) (room_has c.narrowed-room.result origin) _ c.loop-offset-test.true narrowed (c.loop-offset.invariant origin)

pub returns : goal.returns
returns c = λ origin.
    all_all (λ p. is_point_in_reach (point_sum origin p)) c.args.offsets.now c.loop-offset.offset-index (room_has c.loop-offset.room origin) _ c.loop-offset-test.false (c.loop-offset.invariant origin)
