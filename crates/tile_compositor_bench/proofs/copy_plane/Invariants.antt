use Rattle.tile_compositor_bench.specs.Measured.{AreFrame}
use Rattle.tile_compositor_bench.proofs.copy_plane.Given as goal

abbrev pub invariant-loop-y : goal.invariant-loop-y
invariant-loop-y l = record { to : AreFrame l.to }
