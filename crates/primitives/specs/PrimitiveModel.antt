-- A primitive as contracts see it, and what every one keeps.
use Rattle.std.specs.Prelude.{List, All}
use Rattle.wr_geom.specs.Bounds.{Bounds, IsCoordinate}
use Rattle.blend_rules.specs.Colour.{IsPixel}
use Rattle.clip_masks.specs.declared.clip.Clip.{Clip}
use Rattle.display_list.specs.Facts.{IsBorder}
use Rattle.primitives.specs.declared.kind.GlyphUse.{GlyphUse}
use Rattle.primitives.specs.declared.kind.Kind.{Kind}
use Rattle.primitives.specs.declared.kind.Kind.TheVariants as kind

-- what is shown, in a rectangle, under clips, the outermost first
pub record PrimitiveModel : Type 0 where
  pub kind : Kind
  pub rect : Bounds
  pub clips : List Clip

-- a glyph stands at coordinates of a rectangle
pub record IsGlyphUse (g : GlyphUse) : Type 0 where
  pub x : IsCoordinate g.x
  pub y : IsCoordinate g.y

-- its colours are premultiplied, a border fits the rectangle, and glyphs stand at coordinates
abbrev pub IsKind : Bounds → Kind → Type 0
IsKind b (kind.Solid colour) = IsPixel colour
IsKind b (kind.Image pipeline key generation u v) = Unit {0}
IsKind b (kind.Border widths top right bottom l radii) = IsBorder b widths radii × IsPixel top × IsPixel right × IsPixel bottom × IsPixel l
IsKind b (kind.Text pipeline font colour glyphs) = IsPixel colour × All IsGlyphUse glyphs

-- what every primitive keeps
abbrev pub IsPrimitive : PrimitiveModel → Type 0
IsPrimitive p = IsKind p.rect p.kind
