use Rattle.std.proofs.Common.{◌≡◌, length}
use Rattle.primitives.specs.Tops.{AreCloseClips}
use Rattle.slice_bench.proofs.clips.Given as goal

abbrev pub invariant-loop-k : goal.invariant-loop-k
invariant-loop-k l = record { count : length l.clips ≡ l.k; close : AreCloseClips l.clips }
