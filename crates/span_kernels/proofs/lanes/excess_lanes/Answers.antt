use Rattle.span_kernels.proofs.Bytes.{excess_wrapped}
use Rattle.span_kernels.proofs.Sixteen.{lanes_of, lanes_by, lanes_zip, byte_lane}
use Rattle.span_kernels.proofs.lanes.excess_lanes.Goals as goal

pub returns : goal.returns
returns c = lanes_by _ (lanes_zip _ _ _ (lanes_of c.args.x c.fits-x.0) (lanes_of c.args.y c.fits-y.0)) (λ k lt. excess_wrapped _ _ (c.requires k lt) (byte_lane c.args.x c.fits-x k lt))
