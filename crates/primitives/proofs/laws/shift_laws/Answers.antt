use Rattle.primitives.proofs.Moves.{shifted_has_colours, shifted_has_covered, shifted_steps, shifted_runs, shifted_is_visible}
use Rattle.primitives.proofs.laws.shift_laws.Goals as goal

pub returns : goal.returns
returns c = record { colours = shifted_has_colours; covered = shifted_has_covered; steps = shifted_steps; runs = shifted_runs; visible = shifted_is_visible }
