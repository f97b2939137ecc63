-- Bytes of rows of pixels, in one plane.
use Rattle.std.specs.Prelude.{ℕ, ℤ, Option}
use Rattle.blend_rules.specs.declared.colour.Px.{Px}
use Rattle.blend_rules.specs.declared.plane.Plane.{Plane}
use Rattle.blend_rules.specs.Colour.{product}
use Rattle.blend_rules.specs.Planes.{channel}
use Rattle.span_kernels.specs.Bytes.{over_byte}
use Rattle.image_store.specs.Models.{MaskModel}
use Rattle.primitives.specs.Colours.{mask_coverage}

-- a byte of a row with a colour laid over it under a mask, whose first corner lies at (0, 0), at the pixel (x, y)
abbrev pub masked_byte : Plane → Px → Option MaskModel → ℤ → ℤ → ℕ → ℕ
masked_byte p colour mask x y d = let share = mask_coverage mask x y in over_byte (product colour.a share) (product (channel p colour) share) d
