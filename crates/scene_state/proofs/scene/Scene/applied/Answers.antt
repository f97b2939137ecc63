use Rattle.std.proofs.Common.{ℕ, ◌≤◌, ◌^◌, List, sym, subst}
use Rattle.std.specs.Prelude.{All}
use Rattle.txn_format.specs.Checks.{IsOp, EndsWithin}
use Rattle.txn_format.specs.Txn.{PlacedModel}
use Rattle.scene_state.proofs.Placing.{each_op, ends_here}
use Rattle.scene_state.proofs.scene.Scene.applied.Goals as goal

pub apply-requires-clause-op : goal.apply-requires-clause-op
apply-requires-clause-op c =
    let all = subst (λ (ps : List PlacedModel). All (λ p. IsOp c.args.txn.now.pipeline p.op) ps) (sym c.ops-ops.ensures.value) c.ops-ops.ensures.checked.ops in
    rw c.pipeline-pipeline.ensures.value (each_op (λ p. IsOp c.args.txn.now.pipeline p.op) c.ops-ops.result.now c.loop-placed.placed-index _ c.loop-placed-test.true all)

pub apply-requires-clause-within : goal.apply-requires-clause-within
apply-requires-clause-within c =
    let all = subst (λ (ps : List PlacedModel). All (EndsWithin c.args.txn.now.len) ps) (sym c.ops-ops.ensures.value) c.ops-ops.ensures.within in
    ends_here c.args.txn.now.len _ (subst (λ (n : ℕ). n ≤ 2 ^ 26) c.len-len.ensures.value c.len-len.ensures.bound) (each_op (EndsWithin c.args.txn.now.len) c.ops-ops.result.now c.loop-placed.placed-index _ c.loop-placed-test.true all)
