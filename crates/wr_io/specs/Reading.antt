-- Reading from left to right: what is read, and what is then left, or none where too few bytes are left.
use Rattle.std.specs.Prelude.{◌≡◌, ℕ, ℤ, ◌+◌, List, [], ◌∷◌, length, take, drop, Option, Some, None, nat_lt, if◌then◌else◌}
use Rattle.std.specs.Int.{Width, w32, byte_len, from_le_bytes, cast_signed}
use Rattle.wr_io.specs.Unread.{Unread}

-- A reader took what is there, and its cursor stands after that; the cursor stays where there is none.
abbrev pub Takes : {X : Type 0} → Option X → Unread → Unread → Option (X × Unread) → Type 0
Takes (Some x) old new read = read ≡ Some (x, new)
Takes None old new read = (read ≡ None) × (new ≡ old)

abbrev pub byte_in : ℕ → List ℕ → Option (ℕ × Unread)
byte_in at [] = None
byte_in at (b ∷ bytes) = Some (b, record { at = at + 1; bytes = bytes })

-- the next byte
unfoldable pub byte_at : Unread → Option (ℕ × Unread)
byte_at unread = byte_in unread.at unread.bytes

-- the next n bytes
unfoldable pub bytes_at : ℕ → Unread → Option (List ℕ × Unread)
bytes_at n unread =
    if nat_lt (length unread.bytes) n then None else
    Some (take n unread.bytes, record { at = unread.at + n; bytes = drop n unread.bytes })

-- a number of this width, the lowest byte first
unfoldable pub number_at : Width → Unread → Option (ℕ × Unread)
number_at w unread =
    if nat_lt (length unread.bytes) (byte_len w) then None else
    Some (from_le_bytes w (take (byte_len w) unread.bytes), record { at = unread.at + byte_len w; bytes = drop (byte_len w) unread.bytes })

-- a number of four bytes in two's complement, where the number is there
abbrev pub signed_in : Option (ℕ × Unread) → Option (ℤ × Unread)
signed_in None = None
signed_in (Some (n, after)) = Some (cast_signed w32 n, after)

unfoldable pub signed_at : Unread → Option (ℤ × Unread)
signed_at unread = signed_in (number_at w32 unread)
