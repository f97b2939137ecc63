use Rattle.std.proofs.Common.{length, ◌-◌, ◌≡◌, ◌≤◌, IfSome}
use Rattle.wr_io.proofs.Filling.{HasRead}
use Rattle.wr_io.proofs.streams.read_exact.Given as goal

abbrev pub invariant-loop-filled : goal.invariant-loop-filled
invariant-loop-filled g l = record {
  within : l.filled ≤ length l.out;
  told : IfSome (g.S.Source.left l.fn.source) (λ bytes. HasRead bytes (g.S.Source.left l.source) l.out l.filled);
  same_count : g.S.Source.faults l.source ≡ g.S.Source.faults l.fn.source;
  no_call : length l.out ≡ 0 → l.source ≡ l.fn.source;
}

abbrev pub decreases-loop-filled : goal.decreases-loop-filled
decreases-loop-filled g l = length l.initial.out - l.filled
