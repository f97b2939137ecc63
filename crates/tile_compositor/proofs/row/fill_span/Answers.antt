use Rattle.std.proofs.Common.{ℕ}
use Rattle.blend_rules.specs.Planes.{channel}
use Rattle.tile_compositor.proofs.Spans.{span_painted}
use Rattle.tile_compositor.proofs.row.fill_span.Goals as goal

pub returns : goal.returns
returns c =
    span_painted (λ p (_ : ℕ). channel p c.args.colour) c.args.span c.args.planes.now c.fill_plane.new.planes c.fill_plane-2.new.planes c.fill_plane-3.new.planes c.fill_plane-4.new.planes
    c.fill_plane.ensures c.fill_plane-2.ensures c.fill_plane-3.ensures c.fill_plane-4.ensures
