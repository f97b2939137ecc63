use Rattle.std.proofs.Common.{◌≡◌, drop, false}
use Rattle.txn_format.specs.Models.{placed_models}
use Rattle.scene_state.specs.Operations.{after_ops}
use Rattle.scene_state.proofs.scene.Scene.applied.Given as goal

-- what is left, from here, gives what all give from the start; where nothing touched the pipelines they are as before
abbrev pub invariant-loop-placed : goal.invariant-loop-placed
invariant-loop-placed l =
    (after_ops l.pipeline (placed_models (drop l.placed-index l.ops)) l.draft l.gens ≡ after_ops l.txn.pipeline l.txn.ops l.self l.fn.gens)
    × (l.touched ≡ false → l.draft.pipelines ≡ l.self.pipelines)
