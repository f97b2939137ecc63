use Rattle.std.proofs.Common.{arith}
use Rattle.std.proofs.lemmas.Int.{ints}
use Rattle.tile_grid.proofs.grid.shown_in_slice.Goals as goal

pub returns-clause-room : goal.returns-clause-room
returns-clause-room c = record { left = omega (arith, ints); top = omega (arith, ints); right = omega (arith, ints); bottom = omega (arith, ints) }
