use Rattle.primitives.specs.Tops.{AreTops}
use Rattle.slice_tests.proofs.tests.made.tops_of.Given as goal

abbrev pub invariant-loop-piece : goal.invariant-loop-piece
invariant-loop-piece l = AreTops l.tops
