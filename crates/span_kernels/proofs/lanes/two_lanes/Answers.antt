use Rattle.span_kernels.proofs.Bytes.{sum_wide}
use Rattle.span_kernels.proofs.Sixteen.{lanes_of, lanes_by, lanes_map, lanes_zip, byte_lane}
use Rattle.span_kernels.proofs.lanes.two_lanes.Goals as goal

pub returns : goal.returns
returns c = lanes_by _ (lanes_zip _ _ _ (lanes_map _ _ (lanes_of c.args.x c.fits-x.0)) (lanes_map _ _ (lanes_of c.args.y c.fits-y.0))) (λ k lt. sum_wide _ _ (byte_lane c.args.x c.fits-x k lt) (byte_lane c.args.y c.fits-y k lt))
