-- What a call returned and left, against what is meant.
use Rattle.std.specs.Prelude.{◌≡◌, Result, Ok, Err}
use Rattle.wr_io.specs.declared.fault.Fault.{Fault}
use Rattle.scene_state.specs.declared.error.ApplyError.{ApplyError}
use Rattle.scene_state.specs.declared.error.ApplyError.TheVariants as reasons

-- a refusal is the fault that is meant, unless memory ran out
abbrev pub Fails : {Y : Type 0} → ApplyError → Result Y Fault → Type 0
Fails reasons.NoMemory meant = Unit {0}
Fails (reasons.Fault f) meant = meant ≡ Err f

-- what stands after the call is what is meant, or the refusal is, unless memory ran out
abbrev pub Leaves : {X Y : Type 0} → Result X ApplyError → Y → Result Y Fault → Type 0
Leaves (Ok x) new meant = meant ≡ Ok new
Leaves (Err e) new meant = Fails e meant

-- the same where a part of it was returned
abbrev pub Answers : {X Y : Type 0} → (X → Y) → Result X ApplyError → Result Y Fault → Type 0
Answers new (Ok x) meant = meant ≡ Ok (new x)
Answers new (Err e) meant = Fails e meant
