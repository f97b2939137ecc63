use Rattle.std.proofs.Common.{◌≡◌, ◌<◌, ℕ, get_or, length, take, pos, ◌+ℤ◌}
use Rattle.clip_masks.specs.Coverage.{chain_coverage}
use Rattle.clip_masks.proofs.chain.cover_row.Given as goal

abbrev pub invariant-loop-clip : goal.invariant-loop-clip
invariant-loop-clip l = (k : ℕ) → k < length l.out → get_or l.out k 0 ≡ chain_coverage (take l.clip-index l.clips) l.fn.outer (l.fn.x0 +ℤ pos k) l.fn.y
