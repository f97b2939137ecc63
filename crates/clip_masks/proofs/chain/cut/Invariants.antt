use Rattle.std.proofs.Common.{◌≡◌, take}
use Rattle.clip_masks.specs.Coverage.{cut_by}
use Rattle.clip_masks.proofs.chain.cut.Given as goal

abbrev pub invariant-loop-clip : goal.invariant-loop-clip
invariant-loop-clip l = l.left ≡ cut_by l.fn.rect (take l.clip-index l.clips)
