use Rattle.std.proofs.Common.{◌≡◌, IsTrue, length}
use Rattle.scene_limits.specs.Drawn.{is_marked, AreDrawn}
use Rattle.scene_limits.proofs.Marking.{AreNamedMarked}
use Rattle.scene_limits.proofs.marks.reached.Given as goal

abbrev pub invariant-loop-p : goal.invariant-loop-p
invariant-loop-p l = IsTrue (is_marked l.marks 0) × AreNamedMarked l.marks l.pipelines l.p × (length l.marks ≡ 64) × AreDrawn l.marks l.pipelines
