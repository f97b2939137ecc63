use Rattle.primitives.specs.Tops.{AreTops}
use Rattle.slice_bench.proofs.tops.Given as goal

abbrev pub invariant-loop-k : goal.invariant-loop-k
invariant-loop-k l = AreTops l.tops
