use Rattle.std.proofs.Common.{arith}
use Rattle.span_kernels.proofs.Sixteen.{lanes_by, lanes_zip, byte_lane}
use Rattle.span_kernels.proofs.lanes.four_lanes.Goals as goal

pub returns : goal.returns
returns c =
    lanes_by _ (lanes_zip _ _ _ c.two_lanes.ensures c.two_lanes-2.ensures) (λ k lt.
    let w = byte_lane c.args.w c.fits-w k lt in
    let x = byte_lane c.args.x c.fits-x k lt in
    let y = byte_lane c.args.y c.fits-y k lt in
    let z = byte_lane c.args.z c.fits-z k lt in
    omega arith)
