use Rattle.std.proofs.Common.{◌≡◌, take, drop}
use Rattle.blend_rules.specs.declared.plane.Plane.TheVariants.{B, G, R, A}
use Rattle.tile_compositor.specs.Laid.{bytes_in}
use Rattle.tile_compositor.proofs.Sources.{of_planes}
use Rattle.tile_compositor.proofs.source.columns_of.Goals as goal

pub bytes_from-requires : goal.bytes_from-requires
bytes_from-requires c = c.requires B

pub bytes_from-requires-2 : goal.bytes_from-requires-2
bytes_from-requires-2 c = c.requires G

pub bytes_from-requires-3 : goal.bytes_from-requires-3
bytes_from-requires-3 c = c.requires R

pub bytes_from-requires-4 : goal.bytes_from-requires-4
bytes_from-requires-4 c = c.requires A

pub returns : goal.returns
returns c = of_planes (λ p. bytes_in p _ ≡ take c.args.count (drop c.args.start (bytes_in p c.args.row))) c.bytes_from.ensures c.bytes_from-2.ensures c.bytes_from-3.ensures c.bytes_from-4.ensures
