use Rattle.std.proofs.Common.{◌*◌}
use Rattle.span_kernels.specs.Stepped.{IsStepped}
use Rattle.span_kernels.proofs.step.step_pairs.Given as goal

abbrev pub invariant-loop-pair : goal.invariant-loop-pair
invariant-loop-pair g l = record { stepped : IsStepped (g.K.Step.gives l.step) 0 (32 * l.pair) l.fn.d l.d }
