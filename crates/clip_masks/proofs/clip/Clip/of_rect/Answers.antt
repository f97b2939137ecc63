use Rattle.clip_masks.proofs.Moves.{rect_clip_coverage}
use Rattle.clip_masks.proofs.clip.Clip.of_rect.Goals as goal

pub returns-clause-covers : goal.returns-clause-covers
returns-clause-covers c x y = rw c.of_rect.ensures (rect_clip_coverage c.args.rect x y)
