use Rattle.std.proofs.Common.{arith}
use Rattle.clip_masks.proofs.Sides.{side_less}
use Rattle.clip_masks.proofs.side.Side.ends.Goals as goal

pub first_kept-gone-requires-clause-reached : goal.first_kept-gone-requires-clause-reached
first_kept-gone-requires-clause-reached c k h =
    side_less c.args.self k k 7 1 (omega arith) (omega arith) (c.first_kept-clear.ensures.after k h)
