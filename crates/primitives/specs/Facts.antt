-- What holds of entries and of stacks of colours.
use Rattle.std.specs.Prelude.{◌≡◌, ◌<◌, ◌^◌, ℤ, Option, Some, None, All, IsFalse}
use Rattle.wr_geom.specs.Bounds.{holds}
use Rattle.blend_rules.specs.Colour.{IsPixel}
use Rattle.blend_rules.specs.Pixels.{AreOpaque}
use Rattle.image_store.specs.Models.{ImageModel}
use Rattle.image_store.specs.StoreModel.{StoreModel, image_at}
use Rattle.primitives.specs.declared.kind.Kind.{Kind}
use Rattle.primitives.specs.declared.kind.Kind.TheVariants as kind
use Rattle.primitives.specs.PrimitiveModel.{IsPrimitive}
use Rattle.primitives.specs.Colours.{resource_of_use, visible_rect}
use Rattle.primitives.specs.Stacks.{Group, Stack}
use Rattle.primitives.specs.declared.entry.Entry.{Entry}
use Rattle.primitives.specs.declared.entry.Entry.TheVariants as entry

-- ---- what hides all that is below it

-- an image, and each of its texels is opaque
abbrev pub IsOpaqueImage : Option ImageModel → Type 0
IsOpaqueImage None = ⊥
IsOpaqueImage (Some image) = AreOpaque image.texels

-- a colour of alpha 255, or an image that is drawn and opaque
abbrev pub IsOpaque : StoreModel → Kind → Type 0
IsOpaque store (kind.Solid colour) = colour.a ≡ 255
IsOpaque store (kind.Image pipeline key generation u v) = IsOpaqueImage (resource_of_use generation (image_at store pipeline key))
IsOpaque store (kind.Border widths top right bottom l radii) = ⊥
IsOpaque store (kind.Text pipeline font colour glyphs) = ⊥

-- ---- entries

-- a primitive, or an opacity of a byte
abbrev pub IsEntry : Entry → Type 0
IsEntry (entry.Primitive p) = IsPrimitive p
IsEntry (entry.Push opacity mode clips) = opacity < 2 ^ 8
IsEntry entry.Pop = Unit {0}

-- no primitive of these is visible at the point (x, y)
abbrev pub IsHidden : ℤ → ℤ → Entry → Type 0
IsHidden x y (entry.Primitive p) = IsFalse (holds (visible_rect p) x y)
IsHidden x y (entry.Push opacity mode clips) = Unit {0}
IsHidden x y entry.Pop = Unit {0}

-- ---- stacks

-- an open group over a pixel, whose opacity and cover are bytes
pub record IsGroup (g : Group) : Type 0 where
  pub backdrop : IsPixel g.backdrop
  pub opacity : g.opacity < 2 ^ 8
  pub cover : g.cover < 2 ^ 8

-- a stack of pixels
pub record IsStack (s : Stack) : Type 0 where
  pub top : IsPixel s.top
  pub groups : All IsGroup s.groups
