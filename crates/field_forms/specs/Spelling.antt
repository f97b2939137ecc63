-- The bytes of numbers, and of the fields that several formats share.
use Rattle.std.specs.Prelude.{ℕ, ℤ, Bool, List, [], ◌∷◌, Option, Some, None, if◌then◌else◌}
use Rattle.std.specs.List.{concat}
use Rattle.std.specs.Int.{w16, w32, to_le_bytes, cast_unsigned}
use Rattle.wr_geom.specs.Bounds.{Bounds}

-- two bytes, the lowest first
unfoldable pub u16_bytes : ℕ → List ℕ
u16_bytes n = to_le_bytes w16 n

-- four bytes, the lowest first
unfoldable pub u32_bytes : ℕ → List ℕ
u32_bytes n = to_le_bytes w32 n

-- four bytes in two's complement
unfoldable pub i32_bytes : ℤ → List ℕ
i32_bytes z = u32_bytes (cast_unsigned w32 z)

-- 65535 stands for none
abbrev pub optional_bytes : Option ℕ → List ℕ
optional_bytes None = u16_bytes 65535
optional_bytes (Some n) = u16_bytes n

abbrev pub flag_bytes : Bool → List ℕ
flag_bytes b = (if b then 1 else 0) ∷ []

unfoldable pub rectangle_bytes : Bounds → List ℕ
rectangle_bytes b = concat (i32_bytes b.x0 ∷ i32_bytes b.y0 ∷ i32_bytes b.x1 ∷ i32_bytes b.y1 ∷ [])
