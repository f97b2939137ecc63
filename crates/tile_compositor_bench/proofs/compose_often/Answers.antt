use Rattle.tile_compositor_bench.proofs.compose_often.Goals as goal

pub compose-requires-clause-placed : goal.compose-requires-clause-placed
compose-requires-clause-placed c = c.requires.placed c.loop.frame.planes c.loop.invariant.frame.wide c.loop.invariant.frame.high
