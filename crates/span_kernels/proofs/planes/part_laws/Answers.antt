use Rattle.span_kernels.proofs.Parts.{part_is_written, fitting_is_written}
use Rattle.span_kernels.proofs.planes.part_laws.Goals as goal

pub returns : goal.returns
returns c = record { part = part_is_written; fitting = fitting_is_written }
