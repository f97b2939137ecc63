-- Images with a rectangle of their texels replaced.
use Rattle.std.specs.Prelude.{ℕ, ◌+◌, ◌-◌, ◌*◌, ◌/◌, ◌%◌, Bool, ◌&&◌, nat_lt, nat_le, if◌then◌else◌, List}
use Rattle.blend_rules.specs.declared.colour.Px.{Px}
use Rattle.blend_rules.specs.Pixels.{listed, nth_pixel}
use Rattle.image_store.specs.Models.{ImageModel, texel_of}
use Rattle.image_store.specs.declared.patch.Patch.{Patch}

-- whether a rectangle has a column and row
abbrev pub is_inside : Patch → ℕ → ℕ → Bool
is_inside patch x y = nat_le patch.x x && nat_lt x (patch.x + patch.w) && nat_le patch.y y && nat_lt y (patch.y + patch.h)

-- the new colour inside the rectangle, the old one outside
abbrev pub patched_texel : Patch → List Px → ImageModel → ℕ → ℕ → Px
patched_texel patch new old x y =
    if is_inside patch x y then nth_pixel new ((y - patch.y) * patch.w + (x - patch.x)) else texel_of old x y

-- the colours that a function gives of w columns and h rows, row by row
abbrev pub rows_of : ℕ → ℕ → (ℕ → ℕ → Px) → List Px
rows_of w h f = listed (h * w) (λ i. f (i % w) (i / w))

-- an image with a rectangle of its colours replaced
abbrev pub patched : Patch → List Px → ImageModel → ImageModel
patched patch new old = record old { texels = rows_of old.w old.h (patched_texel patch new old) }
