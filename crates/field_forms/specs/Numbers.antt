-- Numbers and colours as fields.
use Rattle.std.specs.Prelude.{ℕ, ℤ, slice_index}
use Rattle.std.specs.Int.{Width, w32, byte_len, from_le_bytes, cast_signed}
use Rattle.blend_rules.specs.declared.colour.Px.{Px}
use Rattle.blend_rules.specs.Colour.{colour_from}
use Rattle.field_forms.specs.Form.{Form, done, piece, ◌>>=◌}

-- one byte
unfoldable pub byte : Form ℕ
byte = do
  bytes ← piece 1
  done (slice_index bytes 0)

-- a number of this width, the lowest byte first
unfoldable pub number : Width → Form ℕ
number w = do
  bytes ← piece (byte_len w)
  done (from_le_bytes w bytes)

-- a number of four bytes in two's complement
unfoldable pub signed : Form ℤ
signed = do
  n ← number w32
  done (cast_signed w32 n)

-- four bytes as a colour, premultiplied or not
unfoldable pub any_colour : Form Px
any_colour = do
  bytes ← piece 4
  done (colour_from bytes 0)
