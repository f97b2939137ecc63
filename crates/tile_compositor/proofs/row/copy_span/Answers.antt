use Rattle.std.proofs.Common.{ℕ, ◌-◌, get_or}
use Rattle.blend_rules.specs.declared.plane.Plane.TheVariants.{B, G, R, A}
use Rattle.tile_compositor.specs.Laid.{bytes_in}
use Rattle.tile_compositor.proofs.Spans.{span_painted}
use Rattle.tile_compositor.proofs.row.copy_span.Goals as goal

pub copy_plane-requires-clause-source : goal.copy_plane-requires-clause-source
copy_plane-requires-clause-source c = c.requires.source.long B

pub copy_plane-requires-2-clause-source : goal.copy_plane-requires-2-clause-source
copy_plane-requires-2-clause-source c = c.requires.source.long G

pub copy_plane-requires-3-clause-source : goal.copy_plane-requires-3-clause-source
copy_plane-requires-3-clause-source c = c.requires.source.long R

pub copy_plane-requires-4-clause-source : goal.copy_plane-requires-4-clause-source
copy_plane-requires-4-clause-source c = c.requires.source.long A

pub returns : goal.returns
returns c =
    span_painted (λ p (x : ℕ). get_or (bytes_in p c.args.source) (x - c.args.span.from) 0) c.args.span c.args.planes.now c.copy_plane.new.planes c.copy_plane-2.new.planes c.copy_plane-3.new.planes c.copy_plane-4.new.planes
    c.copy_plane.ensures c.copy_plane-2.ensures c.copy_plane-3.ensures c.copy_plane-4.ensures
