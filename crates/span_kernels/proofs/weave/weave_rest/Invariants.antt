use Rattle.std.proofs.Common.{◌≡◌, ◌*◌, take}
use Rattle.span_kernels.specs.Bytes.{interleaved}
use Rattle.span_kernels.proofs.weave.weave_rest.Given as goal

abbrev pub invariant-loop-i : goal.invariant-loop-i
invariant-loop-i l = record {
  written : take (4 * l.i) l.out ≡ interleaved (take l.i l.b) (take l.i l.g) (take l.i l.r) (take l.i l.a);
}
