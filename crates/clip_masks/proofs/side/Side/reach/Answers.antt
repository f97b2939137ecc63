use Rattle.std.proofs.Common.{arith}
use Rattle.clip_masks.proofs.Sides.{reach_clear}
use Rattle.clip_masks.proofs.side.Side.reach.Goals as goal

pub returns : goal.returns
returns c k h = reach_clear c.args.self c.max.result k (λ less. let top = c.reach_of.ensures less in omega arith) (λ less. let bottom = c.reach_of-2.ensures less in omega arith) h
