use Rattle.std.proofs.Common.{nat_le, w8, refl}
use Rattle.span_kernels.proofs.Sixteen.{lanes_of, lanes_by, lanes_choose}
use Rattle.span_kernels.proofs.lanes.choose_lanes.Goals as goal

pub returns : goal.returns
returns c = lanes_by _ (lanes_choose w8 nat_le c.args.x c.args.y c.args.low c.args.high (lanes_of c.args.x c.fits-x.0) (lanes_of c.args.y c.fits-y.0) (lanes_of c.args.low c.fits-low.0) (lanes_of c.args.high c.fits-high.0)) (λ k lt. refl)
