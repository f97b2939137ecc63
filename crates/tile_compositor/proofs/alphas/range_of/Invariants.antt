use Rattle.std.proofs.Common.{◌≤◌, ◌<◌, ℕ, get_or}
use Rattle.tile_compositor.proofs.alphas.range_of.Given as goal

-- the bytes so far lie between the two
abbrev pub invariant-loop-byte : goal.invariant-loop-byte
invariant-loop-byte l = record {
  least : (k : ℕ) → k < l.byte-index → l.least ≤ get_or l.row k 0;
  greatest : (k : ℕ) → k < l.byte-index → get_or l.row k 0 ≤ l.greatest;
}
