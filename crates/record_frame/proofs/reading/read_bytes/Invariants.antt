use Rattle.std.proofs.Common.{◌≡◌, ◌≤◌, ◌-◌, length, IfSome, List, ℕ}
use Rattle.record_frame.specs.Reading.{Took}
use Rattle.record_frame.proofs.reading.read_bytes.Given as goal

-- the payload is what was taken
abbrev pub invariant-loop-source : goal.invariant-loop-source
invariant-loop-source g l = record {
  within : length l.payload.items ≤ l.size;
  told : IfSome (g.S.Source.left l.fn.source) (λ bytes. Took bytes (g.S.Source.left l.source) (λ (taken rest : List ℕ). l.payload.items ≡ taken));
  same_count : g.S.Source.faults l.source ≡ g.S.Source.faults l.fn.source;
}

abbrev pub decreases-loop-source : goal.decreases-loop-source
decreases-loop-source g l = l.size - length l.payload.items
