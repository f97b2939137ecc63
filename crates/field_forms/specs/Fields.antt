-- The fields that several formats share, each with its checks.
use Rattle.std.specs.Prelude.{ℕ, zero, suc, ℤ, pos, negsuc, Bool, ◌||◌, List, [], ◌∷◌, Option, Some, None, nat_lt, ◌==◌, int_lt, if◌then◌else◌}
use Rattle.std.specs.Int.{w16}
use Rattle.wr_io.specs.declared.fault.Code.{Code}
use Rattle.wr_io.specs.declared.fault.Code.TheVariants as code
use Rattle.blend_rules.specs.declared.colour.Px.{Px}
use Rattle.blend_rules.specs.Colour.{is_premultiplied}
use Rattle.wr_geom.specs.Bounds.{Bounds}
use Rattle.field_forms.specs.Form.{Form, done, here, refuse, choose, bind, ◌>>=◌}
use Rattle.field_forms.specs.Numbers.{byte, number, signed, any_colour}

-- a field that is refused at its first byte where the test holds
abbrev pub refuse_if : {A : Type 0} → (A → Bool) → Code → Form A → Form A
refuse_if test c f = do
  at ← here
  x ← f
  choose (test x) (refuse c at) (done x)

-- a field that is refused at its first byte where the test doesn't hold
abbrev pub refuse_unless : {A : Type 0} → (A → Bool) → Code → Form A → Form A
refuse_unless test c f = do
  at ← here
  x ← f
  choose (test x) (done x) (refuse c at)

-- the same fields n times
abbrev pub times : {A : Type 0} → ℕ → Form A → Form (List A)
times zero f = done []
times (suc n) f = bind f (λ x. bind (times n f) (λ xs. done (x ∷ xs)))

-- a byte that is 0 or 1
unfoldable pub flag : Form Bool
flag = do
  n ← refuse_if (nat_lt 1) code.BadNumber byte
  done (n == 1)

-- a number that names one of so many
unfoldable pub reference : ℕ → Form ℕ
reference count = refuse_unless (λ n. nat_lt n count) code.BadRef (number w16)

-- 65535 stands for none
abbrev pub optional_of : ℕ → Option ℕ
optional_of n = if n == 65535 then None else Some n

-- one of so many, or none
unfoldable pub optional_reference : ℕ → Form (Option ℕ)
optional_reference count = do
  n ← refuse_unless (λ n. (n == 65535) || nat_lt n count) code.BadRef (number w16)
  done (optional_of n)

-- a number of two bytes, or none
unfoldable pub optional_number : Form (Option ℕ)
optional_number = do
  n ← number w16
  done (optional_of n)

-- more than two to the 20th from 0
unfoldable pub is_far : ℤ → Bool
is_far z = int_lt z (negsuc 1048575) || int_lt (pos 1048576) z

-- a coordinate within two to the 20th of 0
unfoldable pub coordinate : Form ℤ
coordinate = refuse_if is_far code.BadNumber signed

-- a coordinate that is not below another
unfoldable pub coordinate_from : ℤ → Form ℤ
coordinate_from low = refuse_if (λ z. int_lt z low) code.BadNumber coordinate

unfoldable pub rectangle : Form Bounds
rectangle = do
  x0 ← coordinate
  y0 ← coordinate
  x1 ← coordinate_from x0
  y1 ← coordinate_from y0
  done (record { x0 = x0; y0 = y0; x1 = x1; y1 = y1 })

-- a premultiplied colour
unfoldable pub colour : Form Px
colour = refuse_unless is_premultiplied code.BadColour any_colour
