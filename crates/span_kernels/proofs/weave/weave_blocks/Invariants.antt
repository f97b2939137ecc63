use Rattle.std.proofs.Common.{◌≡◌, ◌*◌, take}
use Rattle.span_kernels.specs.Bytes.{interleaved}
use Rattle.span_kernels.proofs.weave.weave_blocks.Given as goal

abbrev pub invariant-loop-block : goal.invariant-loop-block
invariant-loop-block l = record {
  written : take (4 * (16 * l.block)) l.out ≡ interleaved (take (16 * l.block) l.b) (take (16 * l.block) l.g) (take (16 * l.block) l.r) (take (16 * l.block) l.a);
}
