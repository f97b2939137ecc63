use Rattle.std.proofs.Common.{◌+◌, ap}
use Rattle.span_kernels.proofs.Sixteen.{lanes_by}
use Rattle.span_kernels.proofs.Stepping.{stepped_block}
use Rattle.span_kernels.proofs.step.step_block.Goals as goal

pub returns : goal.returns
returns g c =
    stepped_block (g.K.Step.gives c.args.step.now) c.args.at c.args.d.now c.lanes.result c.requires.room
    (lanes_by c.lanes.result c.lanes.ensures (λ k lt. ap (g.K.Step.gives c.args.step.now (c.args.at + k)) (c.lanes_at-old.ensures.each k lt)))
