use Rattle.span_kernels.proofs.Bytes.{over_wrapped}
use Rattle.span_kernels.proofs.Sixteen.{lanes_of, lanes_by, lanes_zip, byte_lane}
use Rattle.span_kernels.proofs.lanes.over_lanes.Goals as goal

pub returns : goal.returns
returns c =
    let s = lanes_of c.args.s c.fits-s.0 in
    let d = lanes_of c.args.d c.fits-d.0 in
    lanes_by _ (lanes_zip _ _ _ s (lanes_zip _ _ _ d c.product_lanes.ensures))
    (λ k lt. over_wrapped _ _ _ (c.requires k lt) (byte_lane c.args.s c.fits-s k lt) (byte_lane c.args.d c.fits-d k lt) (byte_lane c.args.sa c.fits-sa k lt))
