use Rattle.std.proofs.Common.{arith, ◌≡◌, ℕ, pos, ◌+ℤ◌, get_or, ap₂, ◌∙◌, to_z, of_z, w32, w64}
use Rattle.std.proofs.lemmas.Int.{ints}
use Rattle.blend_rules.specs.Colour.{product}
use Rattle.clip_masks.specs.Coverage.{coverage}
use Rattle.clip_masks.proofs.Bytes.{written_more}
use Rattle.clip_masks.proofs.clip.Clip.scale_part.Goals as goal

pub loop-k-preserved : goal.loop-k-preserved
loop-k-preserved c =
    let i = c.loop-k.k in
    let old = c.args.out.now in
    let x0 = to_z w32 (of_z w32 c.args.x0) in
    let y = to_z w32 (of_z w32 c.args.y) in
    let near = c.requires.range i c.loop-k.auto.k c.loop-k-test.true in
    let at : to_z w32 (of_z w32 (to_z w64 (of_z w64 (to_z w64 (of_z w64 (to_z w32 (of_z w32 c.args.x0))) +ℤ to_z w64 i)))) ≡ x0 +ℤ pos i = omega (arith, ints) in
    let cover = rw at at c.cover.ensures in
    let w = written_more (λ (k : ℕ). product (get_or old k 0) (coverage c.args.self.now (x0 +ℤ pos k) y)) c.args.from i c.mul.result old c.loop-k.out c.loop-k.auto.k (omega arith)
    (c.mul.ensures.value ∙ ap₂ (λ (u v : ℕ). product u v) (c.loop-k.invariant.ahead i (omega arith)) cover)
    (record { scaled = c.loop-k.invariant.scaled; below = c.loop-k.invariant.below; ahead = c.loop-k.invariant.ahead }) in
    record { scaled = w.scaled; below = w.below; ahead = w.ahead }
