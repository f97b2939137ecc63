use Rattle.span_kernels.proofs.Sixteen.{lanes_read}
use Rattle.span_kernels.proofs.lanes.lanes_at.Goals as goal

pub returns : goal.returns
returns c = lanes_read c.args.row.now c.args.at c.requires
