use Rattle.std.proofs.Common.{◌≡◌, ◌+◌, ◌-◌, ◌/◌, true, false, sym, arith}
use Rattle.clip_masks.specs.Corners.{side_excludes}
use Rattle.clip_masks.proofs.Sides.{side_more, side_less}
use Rattle.clip_masks.proofs.side.Side.first_kept.Goals as goal

pub halve-preserved-then-excludes_at : goal.halve-preserved-then-excludes_at
halve-preserved-then-excludes_at c =
    let middle = c.halve.low + (c.halve.high - c.halve.low) / 2 in
    let here : side_excludes c.args.self middle c.args.i ≡ true = sym c.if-excludes_at.ensures in
    record {
      order = omega arith;
      within = c.halve.invariant.within;
      before = λ k h. side_more c.args.self middle k c.args.i c.args.i (omega arith) (omega arith) here;
      after = c.halve.invariant.after;
    }

pub halve-preserved : goal.halve-preserved
halve-preserved c =
    let middle = c.halve.low + (c.halve.high - c.halve.low) / 2 in
    let here : side_excludes c.args.self middle c.args.i ≡ false = sym c.if-excludes_at.ensures in
    record {
      order = omega arith;
      within = omega arith;
      before = c.halve.invariant.before;
      after = λ k h. side_less c.args.self k middle c.args.i c.args.i h (omega arith) here;
    }
