-- Small commands, with which the tests try the loop.
use Rattle.std.specs.Prelude.{ℕ, ◌+◌, List, [], ◌∷◌, length, codes, Bool, true, false, Option, Some, None, nat_eq, ◌==◌, if◌then◌else◌}
use Rattle.std.specs.Int.{w32, to_le_bytes}
use Rattle.std.specs.List.{starts_with}
use Rattle.wr_io.specs.declared.fault.Code.TheVariants.{Short}
use Rattle.wr_io.specs.declared.fault.Fault.{Fault}
use Rattle.record_frame.specs.Framing.{FirstRecord, entry, closing, broken, map_entry, InputForm}
use Rattle.record_frame.specs.Transactions.{first_sized}
use Rattle.record_frame.specs.Answers.{AnswerRule}

-- each payload is answered by the length of the one before
abbrev pub lengths : AnswerRule (List ℕ) ℕ
lengths = record { record_of = λ _ before. to_le_bytes w32 before; next = λ payload _. length payload; refusal = λ _ _. None }

-- the first byte
abbrev pub first_byte : List ℕ → List ℕ
first_byte [] = []
first_byte (byte ∷ payload) = byte ∷ []

-- an empty payload has none
abbrev pub no_byte : List ℕ → Option Fault
no_byte [] = Some (record { code = Short; at = 0 })
no_byte (byte ∷ payload) = None

-- each payload is answered by its first byte, and an empty one is refused
abbrev pub first_bytes : AnswerRule (List ℕ) (Unit {0})
first_bytes = record { record_of = λ payload _. first_byte payload; next = λ _ state. state; refusal = λ payload _. no_byte payload }

-- What follows the first byte of an entry that is a bell (B) or a payload (P). A bell has no payload.
unfoldable pub first_after : ℕ → List ℕ → FirstRecord (Option (List ℕ))
first_after tag bytes = if tag == 66 then entry None bytes else if tag == 80 then map_entry (λ payload. Some payload) (first_sized bytes) else broken

unfoldable pub first_ring : Bool → List ℕ → FirstRecord (Option (List ℕ))
first_ring is_allowed [] = broken
first_ring is_allowed (tag ∷ bytes) = if tag == 90 then closing bytes else if is_allowed then first_after tag bytes else broken

unfoldable pub is_bells : List ℕ → Bool
is_bells input = starts_with nat_eq input (codes "BELL")

abbrev pub ring_size : Option (List ℕ) → ℕ
ring_size None = 1
ring_size (Some payload) = 5 + length payload

-- a form of input whose entries are bells and payloads
abbrev pub bells : InputForm (Option (List ℕ))
bells = record { opens = is_bells; first = first_ring; size = ring_size }

abbrev pub ring_of : Bool → List ℕ → Option (List ℕ)
ring_of true payload = Some payload
ring_of false payload = None

-- a bell is answered by B, and a payload by P
abbrev pub ring_mark : Option (List ℕ) → List ℕ
ring_mark None = 66 ∷ []
ring_mark (Some payload) = 80 ∷ []

abbrev pub ringing : AnswerRule (Option (List ℕ)) (Unit {0})
ringing = record { record_of = λ ring _. ring_mark ring; next = λ _ state. state; refusal = λ _ _. None }
