use Rattle.std.proofs.Common.{length, take, ◌-◌, ◌≡◌, ◌≤◌, ◌++◌, Some, IfSome}
use Rattle.wr_io.proofs.streams.write_whole.Given as goal

abbrev pub invariant-loop-done : goal.invariant-loop-done
invariant-loop-done g l = record {
  within : l.done ≤ length l.piece;
  told : IfSome (g.K.Sink.written l.fn.sink) (λ bytes. g.K.Sink.written l.sink ≡ Some (bytes ++ take l.done l.piece));
  same_count : g.K.Sink.faults l.sink ≡ g.K.Sink.faults l.fn.sink;
  no_call : length l.piece ≡ 0 → l.sink ≡ l.fn.sink;
}

abbrev pub decreases-loop-done : goal.decreases-loop-done
decreases-loop-done g l = length l.piece - l.done
