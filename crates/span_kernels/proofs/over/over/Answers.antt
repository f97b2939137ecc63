use Rattle.std.proofs.Common.{arith}
use Rattle.span_kernels.proofs.Bytes.{over_fits}
use Rattle.span_kernels.proofs.over.over.Goals as goal

pub overflow_add-result : goal.overflow_add-result
overflow_add-result c = omega (arith, over_fits c.args.sa c.args.s c.args.d c.requires (omega arith) (omega arith))
