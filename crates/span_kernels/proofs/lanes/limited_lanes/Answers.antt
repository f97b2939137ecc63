use Rattle.std.proofs.Common.{nat_lt, get_or, w16}
use Rattle.span_kernels.proofs.Bytes.{limited_fits, limited_is}
use Rattle.span_kernels.proofs.Sixteen.{lanes_of, lanes_by, lanes_map, lanes_choose, each_lane, byte_lane}
use Rattle.span_kernels.proofs.lanes.limited_lanes.Goals as goal

pub overflow_cast-result-2 : goal.overflow_cast-result-2
overflow_cast-result-2 c =
    let limit = lanes_map _ c.args.limit (lanes_of c.args.limit c.fits-limit.0) in
    let x = (lanes_of c.args.x c.fits-x.0) in
    each_lane _ _ (lanes_choose w16 nat_lt c.args.x _ c.args.x _ x limit x limit) (λ k lt. limited_fits _ (get_or c.args.x k 0) (byte_lane c.args.limit c.fits-limit k lt))

pub returns : goal.returns
returns c =
    let limit = lanes_map _ c.args.limit (lanes_of c.args.limit c.fits-limit.0) in
    let x = (lanes_of c.args.x c.fits-x.0) in
    lanes_by _ (lanes_map _ _ (lanes_choose w16 nat_lt c.args.x _ c.args.x _ x limit x limit)) (λ k lt. limited_is _ _)
