use Rattle.std.proofs.Common.{nat_lt, w16}
use Rattle.span_kernels.proofs.Bytes.{rest_wide}
use Rattle.span_kernels.proofs.Sixteen.{lanes_of, lanes_by, lanes_zip, lanes_choose, wide_lane}
use Rattle.span_kernels.proofs.lanes.rest_lanes.Goals as goal

pub returns : goal.returns
returns c =
    lanes_by _ (lanes_zip _ _ _ (lanes_choose w16 nat_lt c.args.more c.args.less c.args.less c.args.more (lanes_of c.args.more c.fits-more.0) (lanes_of c.args.less c.fits-less.0) (lanes_of c.args.less c.fits-less.0) (lanes_of c.args.more c.fits-more.0)) (lanes_of c.args.less c.fits-less.0)) (λ k lt. rest_wide _ _ (wide_lane c.args.more c.fits-more k lt) (wide_lane c.args.less c.fits-less k lt))
