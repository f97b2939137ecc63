use Rattle.tile_compositor_bench.specs.Measured.{AreFrame}
use Rattle.tile_compositor_bench.proofs.compose_often.Given as goal

abbrev pub invariant-loop : goal.invariant-loop
invariant-loop l = record { frame : AreFrame l.frame.planes }
