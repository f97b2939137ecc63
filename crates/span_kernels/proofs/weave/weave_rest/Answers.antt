use Rattle.std.proofs.Common.{arith}
use Rattle.span_kernels.proofs.Weaving.{rest_step}
use Rattle.span_kernels.proofs.weave.weave_rest.Goals as goal

pub loop-i-preserved : goal.loop-i-preserved
loop-i-preserved c = record { written = rest_step c.loop-i.i c.args.b.now c.args.g.now c.args.r.now c.args.a.now c.loop-i.out c.loop-i-test.true c.requires.green c.requires.red c.requires.alpha (omega arith) c.loop-i.invariant.written }
