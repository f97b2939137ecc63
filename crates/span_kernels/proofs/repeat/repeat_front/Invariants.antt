use Rattle.std.proofs.Common.{◌≡◌, ◌<◌, ◌≤◌, ◌-◌, ◌%◌, ℕ, get_or, length}
use Rattle.span_kernels.proofs.repeat.repeat_front.Given as goal

abbrev pub invariant-loop-done : goal.invariant-loop-done
invariant-loop-done l = record {
  some : l.count ≤ l.done;
  whole : l.done < length l.fn.d → l.done % l.count ≡ 0;
  each : (k : ℕ) → k < l.done → k < length l.fn.d → get_or l.d k 0 ≡ get_or l.fn.d (k % l.count) 0;
}

abbrev pub decreases-loop-done : goal.decreases-loop-done
decreases-loop-done l = length l.d - l.done
