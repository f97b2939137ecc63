use Rattle.std.proofs.Common.{◌≡◌, ℤ, ◌+ℤ◌, ◌&&◌, Bool, ap₂, ◌∙◌, arith, to_z, of_z, w64}
use Rattle.std.proofs.lemmas.Int.{ints}
use Rattle.scene_limits.specs.Rooms.{span_has}
use Rattle.scene_limits.proofs.Spans.{four}
use Rattle.scene_limits.proofs.room.Room.narrowed.Goals as goal

pub returns : goal.returns
returns c = λ origin.
    let u = origin.x in
    let v = origin.y in
    let x : ℤ = to_z w64 (of_z w64 c.args.x) in
    let y : ℤ = to_z w64 (of_z w64 c.args.y) in
    let xs : x ≡ c.args.x = omega (arith, ints) in
    let ys : y ≡ c.args.y = omega (arith, ints) in
    ap₂ (λ (s t : Bool). s && t) (c.narrowed.ensures u) (c.narrowed-2.ensures v)
    ∙ ap₂ (λ (i j : ℤ). (span_has c.args.self.x u && span_has c.args.other.x (u +ℤ i)) && (span_has c.args.self.y v && span_has c.args.other.y (v +ℤ j))) xs ys
    ∙ four (span_has c.args.self.x u) (span_has c.args.self.y v) (span_has c.args.other.x (u +ℤ c.args.x)) (span_has c.args.other.y (v +ℤ c.args.y))
