use Rattle.std.proofs.Common.{◌≤◌}
use Rattle.raster_bench.proofs.time.Given as goal

abbrev pub invariant-loop : goal.invariant-loop
invariant-loop l = l.stage.planes.width ≤ l.stage.scratch.width
