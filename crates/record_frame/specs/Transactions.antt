-- Files of transactions: the magic WRT1, payloads after T and their length, and Z at the end.
use Rattle.std.specs.Prelude.{ℕ, ◌+◌, List, [], ◌∷◌, length, take, drop, codes, Bool, ◌&&◌, ◌||◌, nat_eq, nat_lt, ◌==◌, if◌then◌else◌}
use Rattle.std.specs.Int.{w32, from_le_bytes}
use Rattle.std.specs.List.{starts_with}
use Rattle.record_frame.specs.Framing.{FirstRecord, entry, closing, broken, InputForm}
use Rattle.record_frame.specs.declared.limits.TheConstants.{MAX_PAYLOAD_BYTES}

-- a payload of n bytes, and the bytes after it
abbrev pub first_payload : ℕ → List ℕ → FirstRecord (List ℕ)
first_payload n bytes = if nat_lt MAX_PAYLOAD_BYTES n || nat_lt (length bytes) n then broken else entry (take n bytes) (drop n bytes)

-- four bytes of length, the lowest first, and a payload of that many bytes
abbrev pub first_sized : List ℕ → FirstRecord (List ℕ)
first_sized bytes = if nat_lt (length bytes) 4 then broken else first_payload (from_le_bytes w32 (take 4 bytes)) (drop 4 bytes)

-- a transaction begins with T, where another one is allowed, and the closing byte is Z
unfoldable pub first_transaction : Bool → List ℕ → FirstRecord (List ℕ)
first_transaction is_allowed [] = broken
first_transaction is_allowed (tag ∷ bytes) = if tag == 90 then closing bytes else if (tag == 84) && is_allowed then first_sized bytes else broken

-- the four bytes with which an input begins
abbrev pub input_magic : List ℕ
input_magic = codes "WRT1"

-- whether an input begins with its magic
unfoldable pub has_magic : List ℕ → Bool
has_magic input = starts_with nat_eq input input_magic

-- the form of a file whose entries are payloads, each after its first byte and its length
abbrev pub transactions : InputForm (List ℕ)
transactions = record { opens = has_magic; first = first_transaction; size = λ payload. 5 + length payload }

-- the entry of a payload
abbrev pub payload_of : Unit {0} → List ℕ → List ℕ
payload_of _ payload = payload
