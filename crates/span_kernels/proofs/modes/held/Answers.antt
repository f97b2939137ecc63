use Rattle.std.proofs.Common.{get_or}
use Rattle.span_kernels.proofs.Bytes.{alpha_is}
use Rattle.span_kernels.proofs.Sixteen.{lanes_by, byte_lane}
use Rattle.span_kernels.proofs.modes.held.Goals as goal

pub returns : goal.returns
returns c =
    lanes_by _ c.limited_lanes.ensures (λ k lt.
    let over = c.over_lanes.ensures.each k lt in
    let rest = c.rest_lanes.ensures.each k lt in
    let alpha = alpha_is (get_or c.args.sa k 0) (get_or c.args.da k 0) (byte_lane c.args.sa c.fits-sa k lt) in
    cc)
