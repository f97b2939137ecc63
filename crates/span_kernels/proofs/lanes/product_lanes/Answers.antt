use Rattle.span_kernels.proofs.Bytes.{product_wide, product_wide_fits}
use Rattle.span_kernels.proofs.Sixteen.{lanes_of, lanes_by, lanes_splat, lanes_map, lanes_zip, each_lane, byte_lane}
use Rattle.span_kernels.proofs.lanes.product_lanes.Goals as goal

pub overflow_cast-result : goal.overflow_cast-result
overflow_cast-result c =
    let x = lanes_map _ c.args.x (lanes_of c.args.x c.fits-x.0) in
    let y = lanes_map _ c.args.y (lanes_of c.args.y c.fits-y.0) in
    let wide = lanes_zip _ _ _ x (lanes_zip _ _ _ y (lanes_splat 1)) in
    each_lane _ _ (lanes_zip _ _ _ wide (lanes_splat 8)) (λ k lt. product_wide_fits _ _ (byte_lane c.args.x c.fits-x k lt) (byte_lane c.args.y c.fits-y k lt))

pub returns : goal.returns
returns c =
    let x = lanes_map _ c.args.x (lanes_of c.args.x c.fits-x.0) in
    let y = lanes_map _ c.args.y (lanes_of c.args.y c.fits-y.0) in
    let wide = lanes_zip _ _ _ x (lanes_zip _ _ _ y (lanes_splat 1)) in
    lanes_by _ (lanes_map _ _ (lanes_zip _ _ _ wide (lanes_splat 8))) (λ k lt. product_wide _ _ (byte_lane c.args.x c.fits-x k lt) (byte_lane c.args.y c.fits-y k lt))
