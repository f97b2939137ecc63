use Rattle.std.proofs.Common.{◌≡◌, ◌++◌, ◌+◌, ◌*◌, arith}
use Rattle.std.proofs.lemmas.Simd.{length-chunk}
use lib.Lanes.{chunk}
use Rattle.span_kernels.specs.Bytes.{interleaved}
use Rattle.span_kernels.proofs.Weaving.{quarters, wide_step}
use Rattle.span_kernels.proofs.weave.weave_blocks.Goals as goal

pub loop-block-preserved : goal.loop-block-preserved
loop-block-preserved c =
    let i = 16 * c.loop-block.block in
    let b = c.args.b.now in
    let g = c.args.g.now in
    let r = c.args.r.now in
    let a = c.args.a.now in
    let o = c.weave_lanes.result in
    let e = c.weave_lanes.ensures in
    let test = c.loop-block-test.true in
    let q = quarters (chunk i 16 b) (chunk i 16 g) (chunk i 16 r) (chunk i 16 a) (length-chunk i 16 b (omega arith)) (length-chunk i 16 g (omega arith)) (length-chunk i 16 r (omega arith)) (length-chunk i 16 a (omega arith)) in
    let is : ((o.0 ++ o.1) ++ o.2) ++ o.3 ≡ interleaved (chunk i 16 b) (chunk i 16 g) (chunk i 16 r) (chunk i 16 a) = rw (e.first, e.second, e.third, e.fourth) q in
    let next : 16 * (c.loop-block.block + 1) ≡ i + 16 = omega arith in
    record { written = rw next (wide_step i b g r a c.loop-block.out o.0 o.1 o.2 o.3 (omega arith) c.requires.green c.requires.red c.requires.alpha (omega arith) c.loop-block.invariant.written e.len.0 e.len.1 e.len.2 e.len.3 is) }
