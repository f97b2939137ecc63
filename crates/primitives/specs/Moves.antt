-- Primitives and entries that are moved by whole pixels.
use Rattle.std.specs.Prelude.{◌+ℤ◌, List, map, All}
use Rattle.wr_geom.specs.Bounds.{IsInRange, shifted}
use Rattle.wr_geom.specs.declared.point.Point.{Point}
use Rattle.clip_masks.specs.Clips.{CanShift, shifted_clips}
use Rattle.primitives.specs.declared.kind.GlyphUse.{GlyphUse}
use Rattle.primitives.specs.declared.kind.Kind.{Kind}
use Rattle.primitives.specs.declared.kind.Kind.TheVariants as kind
use Rattle.primitives.specs.PrimitiveModel.{PrimitiveModel, IsGlyphUse}
use Rattle.primitives.specs.declared.entry.Entry.{Entry}
use Rattle.primitives.specs.declared.entry.Entry.TheVariants as entry

abbrev pub shifted_glyph : GlyphUse → Point → GlyphUse
shifted_glyph g by = record { glyph = g.glyph; x = g.x +ℤ by.x; y = g.y +ℤ by.y; generation = g.generation }

abbrev pub shifted_glyphs : List GlyphUse → Point → List GlyphUse
shifted_glyphs glyphs by = map (λ g. shifted_glyph g by) glyphs

-- glyphs move with their rectangle; all else is relative to that
abbrev pub shifted_kind : Kind → Point → Kind
shifted_kind (kind.Solid colour) by = kind.Solid colour
shifted_kind (kind.Image pipeline key generation u v) by = kind.Image pipeline key generation u v
shifted_kind (kind.Border widths top right bottom l radii) by = kind.Border widths top right bottom l radii
shifted_kind (kind.Text pipeline font colour glyphs) by = kind.Text pipeline font colour (shifted_glyphs glyphs by)

abbrev pub shifted_primitive : PrimitiveModel → Point → PrimitiveModel
shifted_primitive p by = record { kind = shifted_kind p.kind by; rect = shifted p.rect by; clips = shifted_clips p.clips by }

abbrev pub shifted_entry : Entry → Point → Entry
shifted_entry (entry.Primitive p) by = entry.Primitive (shifted_primitive p by)
shifted_entry (entry.Push opacity mode clips) by = entry.Push opacity mode (shifted_clips clips by)
shifted_entry entry.Pop by = entry.Pop

abbrev pub shifted_entries : List Entry → Point → List Entry
shifted_entries es by = map (λ e. shifted_entry e by) es

-- ---- what can be moved: all that is moved stays in range

abbrev pub CanShiftGlyph : Point → GlyphUse → Type 0
CanShiftGlyph by g = IsGlyphUse (shifted_glyph g by)

abbrev pub CanShiftKind : Point → Kind → Type 0
CanShiftKind by (kind.Solid colour) = Unit {0}
CanShiftKind by (kind.Image pipeline key generation u v) = Unit {0}
CanShiftKind by (kind.Border widths top right bottom l radii) = Unit {0}
CanShiftKind by (kind.Text pipeline font colour glyphs) = All (CanShiftGlyph by) glyphs

pub record CanShiftPrimitive (by : Point) (p : PrimitiveModel) : Type 0 where
  pub rect : IsInRange (shifted p.rect by)
  pub kind : CanShiftKind by p.kind
  pub clips : All (CanShift by) p.clips

abbrev pub CanShiftEntry : Point → Entry → Type 0
CanShiftEntry by (entry.Primitive p) = CanShiftPrimitive by p
CanShiftEntry by (entry.Push opacity mode clips) = All (CanShift by) clips
CanShiftEntry by entry.Pop = Unit {0}
