-- Fields in a row, each read whole and then checked before the next.
use Rattle.std.specs.Prelude.{◌≡◌, ℕ, ◌+◌, ◌<◌, Bool, List, [], ◌∷◌, ◌++◌, length, take, drop, Result, Ok, Err, nat_lt, ◌==◌, if◌then◌else◌, ◌⊎◌, MatchBool}
use Rattle.wr_io.specs.Unread.{Unread}
use Rattle.wr_io.specs.declared.fault.Code.{Code}
use Rattle.wr_io.specs.declared.fault.Code.TheVariants as code
use Rattle.wr_io.specs.declared.fault.Fault.{Fault}

-- A form gives a value without reading, the position of the next byte, or a field of n bytes; it refuses with a code at a
-- position, chooses between two forms, or is followed by a form that depends on its value.
pub data Form : Type 0 → Type 1 where
  done : {A : Type 0} → A → Form A
  here : Form ℕ
  piece : ℕ → Form (List ℕ)
  refuse : {A : Type 0} → Code → ℕ → Form A
  choose : {A : Type 0} → Bool → Form A → Form A → Form A
  bind : {A B : Type 0} → Form A → (A → Form B) → Form B

infixl 10 ◌>>=◌
-- one form after another, which may depend on the value of the first
abbrev pub ◌>>=◌ : {A B : Type 0} → Form A → (A → Form B) → Form B
f >>= g = bind f g

-- what follows a success; a fault ends all
abbrev pub next : {A B : Type 0} → Result A Fault → (A → Result B Fault) → Result B Fault
next (Ok x) f = f x
next (Err e) f = Err e

-- a refusal with a code at a position
abbrev pub fault : {A : Type 0} → Code → ℕ → Result A Fault
fault c at = Err (record { code = c; at = at })

-- what is read from left to right, or the first fault
abbrev pub read : {A : Type 0} → Form A → Unread → Result (A × Unread) Fault
read (done x) left = Ok (x, left)
read here left = Ok (left.at, left)
read (piece n) left =
    if nat_lt (length left.bytes) n then fault code.Short left.at else
    Ok (take n left.bytes, record { at = left.at + n; bytes = drop n left.bytes })
read (refuse c at) left = fault c at
read (choose b f g) left = if b then read f left else read g left
read (bind f g) left = next (read f left) (λ x. read (g x.0) x.1)

-- each is a byte
abbrev pub AreBytes : List ℕ → Type 0
AreBytes [] = Unit {0}
AreBytes (b ∷ bytes) = (b < 256) × AreBytes bytes

-- From a position, the bytes are fields that pass their checks and stand for a value.
abbrev pub Passes : {A : Type 0} → Form A → ℕ → List ℕ → A → Type 0
Passes (done y) at bytes x = (bytes ≡ []) × (x ≡ y)
Passes here at bytes x = (bytes ≡ []) × (x ≡ at)
Passes (piece n) at bytes x = (length bytes ≡ n) × AreBytes bytes × (x ≡ bytes)
Passes (refuse c p) at bytes x = ⊥
Passes (choose b f g) at bytes x = MatchBool b (Passes f at bytes x) (Passes g at bytes x)
Passes (bind {A} f g) at bytes x =
    (y : A) × (prefix : List ℕ) × (back : List ℕ) × (bytes ≡ prefix ++ back) × Passes f at prefix y × Passes (g y) (at + length prefix) back x

-- From a position, the bytes begin with fields that pass their checks, and the next field is refused with a code at a position:
-- it is not whole, or a check of it fails.
abbrev pub Refuses : {A : Type 0} → Form A → ℕ → List ℕ → Code → ℕ → Type 0
Refuses (done y) at bytes c p = ⊥
Refuses here at bytes c p = ⊥
Refuses (piece n) at bytes c p = (length bytes < n) × (c ≡ code.Short) × (p ≡ at)
Refuses (refuse d q) at bytes c p = (c ≡ d) × (p ≡ q)
Refuses (choose b f g) at bytes c p = MatchBool b (Refuses f at bytes c p) (Refuses g at bytes c p)
Refuses (bind {A} f g) at bytes c p =
    Refuses f at bytes c p
    ⊎ ((y : A) × (prefix : List ℕ) × (rest : List ℕ) × (bytes ≡ prefix ++ rest) × Passes f at prefix y × Refuses (g y) (at + length prefix) rest c p)

-- no byte is left
abbrev pub nothing_left : Unread → Result (Unit {0}) Fault
nothing_left left = if length left.bytes == 0 then Ok tt else fault code.Trailing left.at
