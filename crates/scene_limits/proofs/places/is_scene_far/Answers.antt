use Rattle.std.proofs.Common.{◌≡◌, ℕ, ◌+◌, ◌-◌, ◌<◌, true, false, List, length, set, Option, sym, ap, subst, ◌∙◌, arith}
use Rattle.std.proofs.lemmas.List.{get_or_default}
use Rattle.pipelines.specs.Table.{listed_list, pipeline_list, pipeline_at}
use Rattle.pipelines.specs.declared.pipeline.Pipeline.{Pipeline}
use Rattle.scene_limits.specs.declared.room.Room.{Room}
use Rattle.scene_limits.specs.Drawn.{is_marked}
use Rattle.scene_limits.specs.Rooms.{IsRoomOf, rooms_have}
use Rattle.scene_limits.proofs.Reaches.{AreRooms, rooms_grow, rooms_stay}
use Rattle.scene_limits.proofs.places.is_scene_far.Goals as goal
use Rattle.scene_limits.proofs.places.is_scene_far.Goals.{then-reached-from+in_ok-room, else-reached-from}

pub loop-step-preserved : goal.loop-step-preserved
loop-step-preserved c =
    let ps = c.args.pipelines.now in
    let p : ℕ = 63 - c.loop-step.step in
    let marks = c.args.reached.now in
    let rooms = c.loop-step.rooms in
    let fit = c.get-pipeline.ensures.fit in
    let low : 64 - (c.loop-step.step + 1) ≡ p = omega arith in
    let at : c.from.result ≡ p = omega (arith, c.from.ensures) in
    let inside : c.from.result < length marks = omega arith in
    subst (λ (i : ℕ). AreRooms (is_marked marks) c.if-reached-from.rooms ps i) (sym low)
    (elim c.if-reached-from.branch [
      | then-reached-from+in_ok-room w ↦
          (let on : is_marked marks p ≡ true = ap (is_marked marks) (sym at) ∙ get_or_default marks c.from.result true false inside ∙ w.if-reached-from.true in
          let here : w.from-then-reached-from.result ≡ p = omega (arith, w.from-then-reached-from.ensures) in
          let r = w.in_ok-room.room in
          let is_r : IsRoomOf r (rooms_have rooms) (pipeline_at ps p).moves (pipeline_list ps p) = subst (λ (l : Pipeline). IsRoomOf r (rooms_have rooms) l.moves (listed_list l.listed)) c.get-pipeline.ensures.value w.in_ok-room.ensures in
          subst (λ (rs : List (Option Room)). AreRooms (is_marked marks) rs ps p) (sym (w.rooms-is ∙ ap (λ (i : ℕ). set rooms i r) here))
          (rooms_grow marks ps p (64 - c.loop-step.step) r rooms fit c.requires (omega arith) on (omega arith) (omega arith) is_r c.loop-step.invariant))
      | else-reached-from w ↦
          (let off : is_marked marks p ≡ false = ap (is_marked marks) (sym at) ∙ get_or_default marks c.from.result true false inside ∙ w.if-reached-from.false in
          subst (λ (rs : List (Option Room)). AreRooms (is_marked marks) rs ps p) (sym w.rooms-is)
          (rooms_stay marks ps p (64 - c.loop-step.step) rooms (omega arith) off c.loop-step.invariant))
    ])
