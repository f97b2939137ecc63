use Rattle.std.proofs.Common.{arith}
use Rattle.frame_replay.specs.Frame.{pixel_at}
use Rattle.frame_replay.proofs.Pixels.{no_rows, pixels_more}
use Rattle.frame_replay.proofs.painting.put_painted.Goals as goal

pub loop-y-init : goal.loop-y-init
loop-y-init c = record { put = no_rows (pixel_at c.args.scene.now) c.args.scene.now.view.0 c.args.out.now.items; last = omega arith }

pub loop-y-preserved : goal.loop-y-preserved
loop-y-preserved c =
    record {
      put = pixels_more c.args.scene.now c.args.scene.now.view.0 c.loop-y.y c.args.out.now.items c.loop-y.out.items c.put_row.new.out.items c.loop-y.invariant.put c.in_ok-put_row.ensures;
      last = omega arith;
    }
