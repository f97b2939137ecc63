use Rattle.std.proofs.Common.{◌≡◌, ◌||◌, drop}
use Rattle.txn_format.specs.Models.{placed_models}
use Rattle.renderer.specs.Drops.{any_gives_up}
use Rattle.renderer.proofs.drops.any_gives_up.Given as goal

-- those so far and those that are left say what all say
abbrev pub invariant-loop-placed : goal.invariant-loop-placed
invariant-loop-placed l = (l.is_given_up || any_gives_up (placed_models (drop l.placed-index l.ops)) l.now) ≡ any_gives_up (placed_models l.fn.ops) l.fn.policy
