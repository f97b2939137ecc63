use Rattle.std.proofs.Common.{◌≡◌, ℕ, List, length, Some, ap, subst, ◌∙◌, arith, rules}
use Rattle.std.specs.List.{sum}
use Rattle.scene_state.specs.Limits.{IsScene}
use Rattle.frame_replay.proofs.Shown.{shown_bytes}
use Rattle.frame_replay.proofs.Sizes.{pixels_length}
use Rattle.frame_replay.proofs.load.frame_sum.Goals as goal

pub byte_sum-requires : goal.byte_sum-requires
byte_sum-requires c =
    let scene = c.args.renderer.now.scene in
    let last : Some c.unwrap-frame.result.now ≡ c.args.renderer.now.frame = search rules in
    let bytes =
    shown_bytes scene c.args.renderer.now.frame c.unwrap-frame.result.now c.planes.result.now c.clear.new.self.items c.put_rows.new.out.items c.as_slice.result.now c.requires last
    c.planes.ensures c.clear.ensures.items c.in_ok-put_rows.ensures c.as_slice.ensures.value in
    omega (arith, ap (λ (l : List ℕ). length l) bytes, pixels_length scene (subst IsScene c.scene.ensures c.know_scene.ensures))

pub returns-clause-value : goal.returns-clause-value
returns-clause-value c =
    let scene = c.args.renderer.now.scene in
    let last : Some c.unwrap-frame.result.now ≡ c.args.renderer.now.frame = search rules in
    c.byte_sum.ensures.value
    ∙ ap (λ (l : List ℕ). sum l)
    (shown_bytes scene c.args.renderer.now.frame c.unwrap-frame.result.now c.planes.result.now c.clear.new.self.items c.put_rows.new.out.items c.as_slice.result.now c.requires last
    c.planes.ensures c.clear.ensures.items c.in_ok-put_rows.ensures c.as_slice.ensures.value)

pub returns-clause-most : goal.returns-clause-most
returns-clause-most c =
    let scene = c.args.renderer.now.scene in
    let last : Some c.unwrap-frame.result.now ≡ c.args.renderer.now.frame = search rules in
    let bytes =
    shown_bytes scene c.args.renderer.now.frame c.unwrap-frame.result.now c.planes.result.now c.clear.new.self.items c.put_rows.new.out.items c.as_slice.result.now c.requires last
    c.planes.ensures c.clear.ensures.items c.in_ok-put_rows.ensures c.as_slice.ensures.value in
    omega (arith, c.byte_sum.ensures.most, ap (λ (l : List ℕ). length l) bytes, pixels_length scene (subst IsScene c.scene.ensures c.know_scene.ensures))
