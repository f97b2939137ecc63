use Rattle.std.proofs.Common.{◌≡◌, length}
use Rattle.scene_limits.proofs.Marking.{IsFiltered}
use Rattle.scene_limits.proofs.marks.only_listed.Given as goal

abbrev pub invariant-loop-p : goal.invariant-loop-p
invariant-loop-p l = IsFiltered l.fn.marks l.drawn l.pipelines l.p × (length l.drawn ≡ 64)
