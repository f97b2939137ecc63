use Rattle.std.proofs.Common.{◌≡◌, ◌≤◌, ◌*◌, take}
use Rattle.std.specs.List.{sum}
use Rattle.frame_replay.proofs.load.byte_sum.Given as goal

-- the sum so far
abbrev pub invariant-loop-byte : goal.invariant-loop-byte
invariant-loop-byte l = record { sum : l.total ≡ sum (take l.byte-index l.bytes); most : l.total ≤ 255 * l.byte-index }
