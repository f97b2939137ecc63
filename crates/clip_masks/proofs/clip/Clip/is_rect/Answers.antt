use Rattle.clip_masks.proofs.Moves.{rect_coverage}
use Rattle.std.proofs.Common.{rules, ◌↔◌, IsTrue}
use Rattle.clip_masks.specs.Clips.{IsRectClip}
use Rattle.clip_masks.proofs.clip.Clip.is_rect.Goals as goal

pub returns-then-not-self-clause-covers : goal.returns-then-not-self-clause-covers
returns-then-not-self-clause-covers c h x y =
    let value : IsTrue c.are_same.result ↔ IsRectClip c.args.self.now = search rules in
    rect_coverage c.args.self.now x y (value.0 h)
