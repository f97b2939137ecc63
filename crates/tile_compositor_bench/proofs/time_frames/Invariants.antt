use Rattle.tile_compositor_bench.specs.Measured.{AreFrame}
use Rattle.tile_compositor_bench.proofs.time_frames.Given as goal

abbrev pub invariant-loop : goal.invariant-loop
invariant-loop l = record { to : AreFrame l.to; frame : AreFrame l.frame.planes }
