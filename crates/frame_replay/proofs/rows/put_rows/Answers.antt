use Rattle.std.proofs.Common.{arith}
use Rattle.span_kernels.specs.PlanesModel.{pixel_at}
use Rattle.frame_replay.proofs.Pixels.{no_rows, rows_put}
use Rattle.frame_replay.proofs.rows.put_rows.Goals as goal

pub loop-y-init : goal.loop-y-init
loop-y-init c = record { put = no_rows (pixel_at c.args.planes.now) c.args.planes.now.width c.args.out.now.items; last = omega arith }

pub loop-y-preserved : goal.loop-y-preserved
loop-y-preserved c = record {
  put =
      rows_put (pixel_at c.args.planes.now) c.args.planes.now.width c.loop-y.y c.args.out.now.items c.loop-y.out.items c.put_row.new.out.items c.loop-y.invariant.put c.in_ok-put_row.ensures;
  last = omega arith;
}
