use Rattle.std.proofs.Common.{◌++◌, ap, ◌∙◌, arith}
use Rattle.blend_rules.specs.Colour.{colour_bytes}
use Rattle.blend_rules.specs.declared.colour.Px.{Px}
use Rattle.frame_replay.proofs.Pixels.{no_pixels, row_more}
use Rattle.frame_replay.proofs.painting.put_row.Goals as goal

pub loop-x-init : goal.loop-x-init
loop-x-init c = record { put = no_pixels c.args.scene.now c.args.y c.args.out.now.items; last = omega arith }

pub loop-x-preserved : goal.loop-x-preserved
loop-x-preserved c =
    record {
      put = row_more c.args.scene.now c.args.y c.loop-x.x c.args.out.now.items c.loop-x.out.items c.put_colour.new.out.items c.loop-x.invariant.put
          (c.in_ok-put_colour.ensures ∙ ap (λ (colour : Px). c.loop-x.out.items ++ colour_bytes colour) c.paint_at.ensures);
      last = omega arith;
    }
