use Rattle.std.proofs.Common.{nat_lt, w8}
use Rattle.span_kernels.proofs.Bytes.{greater_is}
use Rattle.span_kernels.proofs.Sixteen.{lanes_of, lanes_by, lanes_choose}
use Rattle.span_kernels.proofs.lanes.greater_lanes.Goals as goal

pub returns : goal.returns
returns c = lanes_by _ (lanes_choose w8 nat_lt c.args.x c.args.y c.args.y c.args.x (lanes_of c.args.x c.fits-x.0) (lanes_of c.args.y c.fits-y.0) (lanes_of c.args.y c.fits-y.0) (lanes_of c.args.x c.fits-x.0)) (λ k lt. greater_is _ _)
