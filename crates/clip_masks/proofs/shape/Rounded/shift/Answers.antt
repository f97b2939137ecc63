use Rattle.std.proofs.Common.{rules}
use Rattle.clip_masks.proofs.Moves.{shifted_samples}
use Rattle.clip_masks.proofs.shape.Rounded.shift.Goals as goal

pub returns-clause-value : goal.returns-clause-value
returns-clause-value c = search rules

pub returns-clause-samples : goal.returns-clause-samples
returns-clause-samples c x y = rw (returns-clause-value c) (shifted_samples c.args.self.now c.args.by x y)
