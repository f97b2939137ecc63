-- Pixels that are those of a record.
use Rattle.std.specs.Prelude.{◌≡◌, ℕ, ℤ, Option, Some, None, option_map, List, All, IsTrue}
use Rattle.wr_geom.specs.Bounds.{Bounds, holds}
use Rattle.blend_rules.specs.declared.colour.Px.{Px}
use Rattle.image_store.specs.StoreModel.{StoreModel, image_at, glyph_at}
use Rattle.primitives.specs.Colours.{visible_rect}
use Rattle.primitives.specs.Stacks.{value_at}
use Rattle.primitives.specs.declared.entry.Entry.{Entry}
use Rattle.primitives.specs.declared.entry.Entry.TheVariants as entry
use Rattle.primitives.specs.declared.kind.Kind.{Kind}
use Rattle.primitives.specs.declared.kind.Kind.TheVariants as kind

-- a use has the generation of what is stored; a use without a generation draws nothing, whatever is stored
abbrev pub IsCurrentUse : Option ℕ → Option ℕ → Type 0
IsCurrentUse None stored = Unit {0}
IsCurrentUse (Some generation) stored = stored ≡ Some generation

-- each image and each glyph that a primitive uses is the stored one
abbrev pub IsCurrentKind : StoreModel → Kind → Type 0
IsCurrentKind store (kind.Solid colour) = Unit {0}
IsCurrentKind store (kind.Image pipeline key generation u v) = IsCurrentUse generation (option_map (λ i. i.generation) (image_at store pipeline key))
IsCurrentKind store (kind.Border widths top right bottom l radii) = Unit {0}
IsCurrentKind store (kind.Text pipeline font colour glyphs) = All (λ g. IsCurrentUse g.generation (option_map (λ m. m.generation) (glyph_at store pipeline font g.glyph))) glyphs

-- if the entry is a primitive that is visible at the point (x, y), it is current
abbrev pub IsCurrentAt : StoreModel → ℤ → ℤ → Entry → Type 0
IsCurrentAt store x y (entry.Primitive p) = IsTrue (holds (visible_rect p) x y) → IsCurrentKind store p.kind
IsCurrentAt store x y (entry.Push opacity mode clips) = Unit {0}
IsCurrentAt store x y entry.Pop = Unit {0}

-- at each point of a tile where what is visible is current, the pixel is the value of the record's entries
abbrev pub IsRight : StoreModel → (ℤ → ℤ → Px) → List Entry → Bounds → Type 0
IsRight store pixel es rect = (x y : ℤ) → IsTrue (holds rect x y) → All (IsCurrentAt store x y) es → pixel x y ≡ value_at es store x y
