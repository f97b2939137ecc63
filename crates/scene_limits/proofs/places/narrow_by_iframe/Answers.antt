use Rattle.std.proofs.Common.{ℤ, ◌∙◌, w64, to_z, of_z, rules}
use Rattle.std.proofs.lemmas.Int.{to_z-of_z}
use mir.Val.{SFits}
use Rattle.scene_limits.specs.Rooms.{room_has, iframe_shift}
use Rattle.scene_limits.proofs.Walks.{with_room}
use Rattle.scene_limits.proofs.places.narrow_by_iframe.Goals as goal

pub returns-in-Some : goal.returns-in-Some
returns-in-Some c = λ origin.
    let i : ℤ = to_z w64 (of_z w64 c.shift-x.result.0) in
    let j : ℤ = to_z w64 (of_z w64 c.shift-x.result.1) in
    let fi : SFits w64 c.shift-x.result.0 = search rules in
    let fj : SFits w64 c.shift-x.result.1 = search rules in
    c.narrowed.ensures origin
    ∙ with_room c.args.rooms.now c.args.iframe.pipeline c.in-Some.room (room_has c.args.sum origin) origin (iframe_shift c.args.offsets.now c.args.iframe) i j c.in-Some.ensures
    (to_z-of_z w64 c.shift-x.result.0 fi ∙ c.shift-x.ensures.x) (to_z-of_z w64 c.shift-x.result.1 fj ∙ c.shift-x.ensures.y)
