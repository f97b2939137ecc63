use Rattle.std.proofs.Common.{arith}
use Rattle.tile_raster.proofs.note.note_of.Goals as goal

pub overflow_add-i : goal.overflow_add-i
overflow_add-i c = omega (arith, c.len-count.ensures, c.requires.inside)
