use Rattle.tile_compositor_tests.proofs.frames.compose_on.Goals as goal

pub compose-requires-clause-placed : goal.compose-requires-clause-placed
compose-requires-clause-placed c = c.requires.placed c.args.frame.now.planes c.requires.width c.requires.height
