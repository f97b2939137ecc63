use Rattle.std.proofs.Common.{◌≤◌, ◌-◌, ℕ}
use Rattle.blend_rules.specs.declared.colour.Px.{Px}
use Rattle.tile_raster.specs.Levels.{over_primitive}
use Rattle.tile_raster.specs.Rows.{width, IsPainted}
use Rattle.tile_raster.specs.Spans.{x_of, painted_above}
use Rattle.tile_raster.specs.Rasters.{IsFit}
use Rattle.tile_raster.proofs.lay.lay_primitive.Given as goal

abbrev pub invariant-parts : goal.invariant-parts
invariant-parts l = record {
  left : l.shown.from ≤ l.next;
  right : l.next ≤ l.shown.to;
  painted : IsPainted (painted_above (λ (k : ℕ) (d : Px). over_primitive l.noted.store.now l.noted.primitive.now (x_of l.strip.first k) l.strip.first.y d) l.noted.number l.cover)
      (record { from = l.shown.from; to = l.next }) l.fn.row l.row;
  tools : IsFit (width l.fn.row) l.tools;
}

abbrev pub decreases-parts : goal.decreases-parts
decreases-parts l = l.shown.to - l.next
