use Rattle.std.proofs.Common.{◌≡◌, ◌≤◌, ◌-◌}
use Rattle.tile_raster.specs.Rasters.{AreTaken}
use Rattle.tile_raster.proofs.opaque.take_runs.Given as goal

abbrev pub invariant-runs : goal.invariant-runs
invariant-runs l = record {
  left : l.fn.strip.span.from ≤ l.from;
  right : l.from ≤ l.to;
  end : l.to ≡ l.fn.strip.span.to;
  taken : AreTaken l.noted (record { first = l.strip.first; span = record { from = l.fn.strip.span.from; to = l.from } }) l.fn.cover l.cover l.fn.row l.row;
}

abbrev pub decreases-runs : goal.decreases-runs
decreases-runs l = l.to - l.from
