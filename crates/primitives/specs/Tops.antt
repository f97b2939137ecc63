-- Tops: each is one primitive or one group, near the point (0, 0). What makes tops gives such ones, and what takes them may ask for it.
use Rattle.std.specs.Prelude.{◌≡◌, ℕ, ◌^◌, ℤ, pos, neg_ℤ, ◌≤ℤ◌, List, [], ◌∷◌, ◌++◌, length, All}
use Rattle.wr_geom.specs.Bounds.{Bounds}
use Rattle.wr_geom.specs.declared.point.Point.{Point}
use Rattle.blend_rules.specs.declared.mode.Mode.{Mode}
use Rattle.clip_masks.specs.declared.clip.Clip.{Clip}
use Rattle.primitives.specs.Clipping.{entry_clips}
use Rattle.primitives.specs.PrimitiveModel.{PrimitiveModel}
use Rattle.primitives.specs.Stacks.{IsRow}
use Rattle.primitives.specs.declared.entry.Entry.{Entry}
use Rattle.primitives.specs.declared.entry.Entry.TheVariants as entry
use Rattle.primitives.specs.declared.entry.Top.{Top}
use Rattle.primitives.specs.declared.kind.GlyphUse.{GlyphUse}
use Rattle.primitives.specs.declared.kind.Kind.{Kind}
use Rattle.primitives.specs.declared.kind.Kind.TheVariants as kind

-- the clips of the first of some entries: of the primitive, or of the Push of the group
abbrev pub first_clips : List Entry → List Clip
first_clips [] = []
first_clips (e ∷ es) = entry_clips e

-- the entries of tops, one after another
abbrev pub top_entries : List Top → List Entry
top_entries [] = []
top_entries (t ∷ ts) = t.entries ++ top_entries ts

-- one primitive, or one group from its Push to its Pop
pub data IsWhole : List Entry → Type 0 where
  primitive : (p : PrimitiveModel) → IsWhole (entry.Primitive p ∷ [])
  group : (opacity : ℕ) (mode : Mode) (clips : List Clip) (es : List Entry) → IsRow es → IsWhole (entry.Push opacity mode clips ∷ (es ++ (entry.Pop ∷ [])))

-- ---- how far from the point (0, 0) they are, in pixels

-- a coordinate at most so many pixels from 0
pub record IsWithinPixels (n : ℕ) (z : ℤ) : Type 0 where
  pub low : neg_ℤ (pos n) ≤ℤ z
  pub high : z ≤ℤ pos n

-- where the origin of a slice can be
pub record IsSliceOrigin (p : Point) : Type 0 where
  pub across : IsWithinPixels (2 ^ 27) p.x
  pub down : IsWithinPixels (2 ^ 27) p.y

-- a rectangle, with its four edges
pub record IsCloseRect (b : Bounds) : Type 0 where
  pub left : IsWithinPixels (2 ^ 28) b.x0
  pub top : IsWithinPixels (2 ^ 28) b.y0
  pub right : IsWithinPixels (2 ^ 28) b.x1
  pub bottom : IsWithinPixels (2 ^ 28) b.y1

-- the first corner of a glyph
pub record IsCloseGlyph (g : GlyphUse) : Type 0 where
  pub across : IsWithinPixels (2 ^ 28) g.x
  pub down : IsWithinPixels (2 ^ 28) g.y

abbrev pub IsCloseKind : Kind → Type 0
IsCloseKind (kind.Solid colour) = Unit {0}
IsCloseKind (kind.Image pipeline key generation u v) = Unit {0}
IsCloseKind (kind.Border widths top right bottom l radii) = Unit {0}
IsCloseKind (kind.Text pipeline font colour glyphs) = All IsCloseGlyph glyphs

abbrev pub AreCloseClips : List Clip → Type 0
AreCloseClips clips = All (λ c. IsCloseRect c.shape.rect) clips

pub record IsClosePrimitive (p : PrimitiveModel) : Type 0 where
  pub rect : IsCloseRect p.rect
  pub kind : IsCloseKind p.kind
  pub clips : AreCloseClips p.clips

abbrev pub IsCloseEntry : Entry → Type 0
IsCloseEntry (entry.Primitive p) = IsClosePrimitive p
IsCloseEntry (entry.Push opacity mode clips) = AreCloseClips clips
IsCloseEntry entry.Pop = Unit {0}

-- ---- tops

-- what holds of each top: it is whole and close, its origin can be a slice's, and each clip of its first entry has a home
pub record IsTop (t : Top) : Type 0 where
  pub whole : IsWhole t.entries
  pub homes : length t.homes ≡ length (first_clips t.entries)
  pub origin : IsSliceOrigin t.origin
  pub close : All IsCloseEntry t.entries

abbrev pub AreTops : List Top → Type 0
AreTops tops = All IsTop tops
