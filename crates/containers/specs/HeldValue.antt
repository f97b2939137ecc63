-- The value of a `Shared`.
use Rattle.std.specs.Prelude.{Option, Some, None}
use Rattle.std.specs.declared.rc.Rc.{Rc}

-- what was written, or else what stood at the start
abbrev pub held_value : {X Z : Type 0} → Option (Rc X Z) → X → X
held_value None start = start
held_value (Some written) start = written.value
