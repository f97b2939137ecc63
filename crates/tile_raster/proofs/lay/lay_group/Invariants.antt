use Rattle.std.proofs.Common.{◌≤◌, ◌-◌, ℕ}
use Rattle.blend_rules.specs.Colour.{blended}
use Rattle.blend_rules.specs.declared.colour.Px.{Px}
use Rattle.tile_raster.specs.Rows.{pixel, IsPainted}
use Rattle.tile_raster.specs.Spans.{painted_above}
use Rattle.tile_raster.proofs.lay.lay_group.Given as goal

abbrev pub invariant-parts : goal.invariant-parts
invariant-parts l = record {
  left : l.start ≤ l.next;
  right : l.next ≤ l.end;
  painted : IsPainted (painted_above (λ (k : ℕ) (d : Px). blended l.mode (pixel l.group k) d) l.depth l.cover) (record { from = l.start; to = l.next }) l.fn.row l.row;
}

abbrev pub decreases-parts : goal.decreases-parts
decreases-parts l = l.end - l.next
