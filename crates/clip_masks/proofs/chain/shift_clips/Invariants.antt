use Rattle.std.proofs.Common.{◌≡◌, ◌++◌, take, drop}
use Rattle.clip_masks.specs.Clips.{shifted_clips}
use Rattle.clip_masks.proofs.chain.shift_clips.Given as goal

abbrev pub invariant-loop-clip : goal.invariant-loop-clip
invariant-loop-clip l = l.clips ≡ shifted_clips (take l.clip-index l.fn.clips) l.by ++ drop l.clip-index l.fn.clips
