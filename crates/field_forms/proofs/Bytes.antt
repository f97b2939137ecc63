-- Lists of bytes.
use Rattle.std.proofs.Common.{ℕ, zero, suc, ◌<◌, List, [], ◌∷◌, ◌++◌, get_or, arith}
use Rattle.field_forms.specs.Form.{AreBytes}

-- each byte of a slice is one
pub are_bytes : (bytes : List ℕ) → ((i : ℕ) → get_or bytes i 0 < 256) → AreBytes bytes
are_bytes [] h = tt
are_bytes (b ∷ bytes) h = (h 0, are_bytes bytes (λ i. h (suc i)))

pub byte_at_index : (bytes : List ℕ) → AreBytes bytes → (i : ℕ) → get_or bytes i 0 < 256
byte_at_index [] h i = omega arith
byte_at_index (b ∷ bytes) h zero = h.0
byte_at_index (b ∷ bytes) h (suc i) = byte_at_index bytes h.1 i

pub AreBytes-prefix : (xs ys : List ℕ) → AreBytes (xs ++ ys) → AreBytes xs
AreBytes-prefix [] ys h = tt
AreBytes-prefix (x ∷ xs) ys h = (h.0, AreBytes-prefix xs ys h.1)

pub AreBytes-rest : (xs ys : List ℕ) → AreBytes (xs ++ ys) → AreBytes ys
AreBytes-rest [] ys h = h
AreBytes-rest (x ∷ xs) ys h = AreBytes-rest xs ys h.1
