-- Numbers that are rolled one after another, as dice are: each state of 64 bits follows from the one before.
use Rattle.std.specs.Prelude.{◌≡◌, ℕ, zero, suc, ◌+◌, ◌*◌, ◌/◌, ◌%◌, ◌^◌, List, [], ◌∷◌, ◌++◌}
use Rattle.blend_rules.specs.declared.colour.Px.{Px}

-- the state after a roll
unfoldable pub next_state : ℕ → ℕ
next_state x = (x * 6364136223846793005 + 1442695040888963407) % (2 ^ 64)

-- what was rolled, and the state after it
pub record Rolled (X : Type 0) : Type 0 where
  pub value : X
  pub state : ℕ

-- a number below n, from the state's higher bits
unfoldable pub roll : ℕ → ℕ → Rolled ℕ
roll n x = record { value = (next_state x / 2 ^ 33) % n; state = next_state x }

-- so many of one kind, one after another
unfoldable pub rolled_list : {X : Type 0} → (ℕ → Rolled X) → ℕ → ℕ → Rolled (List X)
rolled_list one zero x = record { value = []; state = x }
rolled_list one (suc n) x =
    record { value = (one x).value ∷ (rolled_list one n (one x).state).value; state = (rolled_list one n (one x).state).state }

-- a premultiplied colour: its alpha, and then blue, green and red, none above that
unfoldable pub rolled_colour : ℕ → Rolled Px
rolled_colour x =
    let a = roll 256 x in
    let b = roll (a.value + 1) a.state in
    let g = roll (a.value + 1) b.state in
    let r = roll (a.value + 1) g.state in
    record { value = record { b = b.value; g = g.value; r = r.value; a = a.value }; state = r.state }

-- an opaque grey
unfoldable pub rolled_grey : ℕ → Rolled Px
rolled_grey x =
    let v = roll 256 x in
    record { value = record { b = v.value; g = v.value; r = v.value; a = 255 }; state = v.state }

-- a value was rolled in a state, which is another now
abbrev pub IsRolled : {X : Type 0} → (ℕ → Rolled X) → X → ℕ → ℕ → Type 0
IsRolled rolls value old new = rolls old ≡ record { value = value; state = new }

-- the bytes of what was rolled were appended to others
pub record IsPut {X : Type 0} (bytes : X → List ℕ) (rolls : ℕ → Rolled X) (out_old out_new : List ℕ) (old new : ℕ) : Type 0 where
  pub out : out_new ≡ out_old ++ bytes (rolls old).value
  pub state : new ≡ (rolls old).state
