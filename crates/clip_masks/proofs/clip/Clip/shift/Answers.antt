use Rattle.clip_masks.proofs.Moves.{shifted_coverage}
use Rattle.clip_masks.proofs.clip.Clip.shift.Goals as goal

pub returns-clause-covers : goal.returns-clause-covers
returns-clause-covers c x y = rw c.shift.ensures.value (shifted_coverage c.args.self.now c.args.by x y)
