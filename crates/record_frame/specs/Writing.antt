-- What was written.
use Rattle.std.specs.Prelude.{◌≡◌, ℕ, ◌-◌, ◌<◌, List, ◌++◌, length, take, Option, Some, IfSome, Result, Ok, Err}
use Rattle.record_frame.specs.declared.error.RunError.{RunError}

-- where what was written is told, these bytes were appended to it
abbrev pub Wrote : Option (List ℕ) → Option (List ℕ) → List ℕ → Type 0
Wrote old new bytes = IfSome old (λ before. new ≡ Some (before ++ bytes))

-- one list begins the other
abbrev pub IsPrefix : {A : Type 0} → List A → List A → Type 0
IsPrefix prefix whole = (rest : List _) × (whole ≡ prefix ++ rest)

-- a piece was written whole, or a prefix of it that is shorter
abbrev pub WroteWhole : Option (List ℕ) → Option (List ℕ) → List ℕ → Result (Unit {0}) RunError → Type 0
WroteWhole old new piece (Ok _) = Wrote old new piece
WroteWhole old new piece (Err e) = (out : List ℕ) × IsPrefix out piece × (length out < length piece) × Wrote old new out

-- a list without its last member
abbrev pub all_but_last : {A : Type 0} → List A → List A
all_but_last list = take (length list - 1) list
