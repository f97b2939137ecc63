use Rattle.std.proofs.Common.{◌*◌, ◌/◌, length}
use Rattle.span_kernels.specs.Stepped.{IsStepped}
use Rattle.span_kernels.proofs.step.step_rest.Given as goal

abbrev pub invariant-loop-i : goal.invariant-loop-i
invariant-loop-i g l = record { stepped : IsStepped (g.K.Step.gives l.step) (16 * (length l.fn.d / 16)) l.i l.fn.d l.d }
