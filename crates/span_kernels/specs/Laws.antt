-- What the bytes that kernels leave have to do with colours, as laws on the definitions.
use Rattle.std.specs.Prelude.{◌≡◌, ◌≢◌, ℕ, ◌<◌, ◌^◌, List, map}
use Rattle.blend_rules.specs.declared.colour.Px.{Px}
use Rattle.blend_rules.specs.declared.mode.Mode.{Mode}
use Rattle.blend_rules.specs.declared.plane.Plane.{Plane}
use Rattle.blend_rules.specs.declared.plane.Plane.TheVariants.{B, G, R, A}
use Rattle.blend_rules.specs.declared.mode.Mode.TheVariants.{Normal}
use Rattle.blend_rules.specs.Colour.{IsPixel, product, scaled, blended, blended_channel, source_over}
use Rattle.blend_rules.specs.Pixels.{pixel_bytes}
use Rattle.blend_rules.specs.Planes.{channel}
use Rattle.span_kernels.specs.Bytes.{over_byte, interleaved}

-- a source over a backdrop, in each plane
abbrev pub OverByPlane : Type 0
OverByPlane = (p : Plane) (s d : Px) → channel p (source_over s d) ≡ over_byte s.a (channel p s) (channel p d)

-- a scaled colour, in each plane
abbrev pub ScaledByPlane : Type 0
ScaledByPlane = (p : Plane) (s : Px) (c : ℕ) → channel p (scaled s c) ≡ product (channel p s) c

-- a scaled colour over a backdrop in mode Normal, in each plane
abbrev pub MaskedByPlane : Type 0
MaskedByPlane = (p : Plane) (s d : Px) (c : ℕ) → c < 2 ^ 8 → IsPixel s → IsPixel d
    → channel p (blended Normal (scaled s c) d) ≡ over_byte (product s.a c) (product (channel p s) c) (channel p d)

-- a blended colour, in the planes of colour
abbrev pub BlendedByPlane : Type 0
BlendedByPlane = (p : Plane) (m : Mode) (s d : Px) → p ≢ A
    → channel p (blended m s d) ≡ blended_channel m s.a d.a (channel p s) (channel p d)

-- and in that of alpha, in every mode
abbrev pub BlendedAlpha : Type 0
BlendedAlpha = (m : Mode) (s d : Px) → s.a < 2 ^ 8 → channel A (blended m s d) ≡ over_byte s.a s.a d.a

-- the planes of a row of pixels weave its bytes
abbrev pub WovenPixels : Type 0
WovenPixels = (row : List Px)
    → interleaved (map (channel B) row) (map (channel G) row) (map (channel R) row) (map (channel A) row) ≡ pixel_bytes row
