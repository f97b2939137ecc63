use Rattle.std.proofs.Common.{◌≡◌, ◌≤◌, ◌<◌, ℕ, get_or, pos, ◌+ℤ◌}
use Rattle.blend_rules.specs.Colour.{product}
use Rattle.clip_masks.specs.Coverage.{coverage}
use Rattle.clip_masks.proofs.clip.Clip.scale_part.Given as goal

abbrev pub invariant-loop-k : goal.invariant-loop-k
invariant-loop-k l = record {
  scaled : (k : ℕ) → l.from ≤ k → k < l.k → get_or l.out k 0 ≡ product (get_or l.fn.out k 0) (coverage l.self (l.fn.x0 +ℤ pos k) l.fn.y);
  below : (k : ℕ) → k < l.from → get_or l.out k 0 ≡ get_or l.fn.out k 0;
  ahead : (k : ℕ) → l.k ≤ k → get_or l.out k 0 ≡ get_or l.fn.out k 0;
}
