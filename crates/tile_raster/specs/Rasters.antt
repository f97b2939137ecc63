-- Levels of entries, drawn into a row that knows what covers it.
use Rattle.std.specs.Prelude.{◌≡◌, ℕ, ◌+◌, ◌≤◌, ◌<◌, ◌⊎◌, Option, Some, None, List, All, length}
use Rattle.wr_geom.specs.declared.point.Point.{Point}
use Rattle.primitives.specs.Colours.{primitive_colour}
use Rattle.primitives.specs.declared.entry.Entry.{Entry}
use Rattle.batching.specs.Depths.{Depths, depth_at}
use Rattle.tile_raster.specs.declared.strip.Strip.{Strip}
use Rattle.tile_raster.specs.declared.note.Noted.{Noted}
use Rattle.tile_raster.specs.declared.note.Drawing.{Drawing}
use Rattle.tile_raster.specs.declared.level.Level.{Level}
use Rattle.tile_raster.specs.declared.level.LevelRows.{LevelRows}
use Rattle.tile_raster.specs.declared.level.Tools.{Tools}
use Rattle.tile_raster.specs.Lists.{entries_of}
use Rattle.tile_raster.specs.Levels.{IsAt, StaysWithin, IsBegun}
use Rattle.tile_raster.specs.Rows.{LineModel, width, pixel, IsIn}
use Rattle.tile_raster.specs.Spans.{x_of, coverage_at, HoldsPixel}

-- the position from which entries count at a pixel: 0 where nothing covers it, else the depth
abbrev pub start_of : Option ℕ → ℕ
start_of None = 0
start_of (Some depth) = depth

abbrev pub start_at : Depths → ℕ → ℕ
start_at cover k = start_of (depth_at cover k)

-- ---- opaque primitives

-- a pixel and its depth are as they were
pub record IsLeft (old new : Depths) (row now : LineModel) (k : ℕ) : Type 0 where
  pub depth : depth_at new k ≡ depth_at old k
  pub colour : pixel now k ≡ pixel row k

-- a pixel was open, and has the colour of a primitive that is whole there and for its depth the position after it
pub record IsTaken (t : Noted) (first : Point) (old new : Depths) (now : LineModel) (k : ℕ) : Type 0 where
  pub was_open : depth_at old k ≡ None
  pub depth : depth_at new k ≡ Some (t.number + 1)
  pub colour : pixel now k ≡ primitive_colour t.store.now t.primitive.now (x_of first k) first.y
  pub inside : HoldsPixel t.primitive.now.rect first k
  pub whole : coverage_at t.primitive.now.clips first k ≡ 255

-- in a strip, each pixel is left or taken, and each beside it is left
pub record AreTaken (t : Noted) (s : Strip) (old new : Depths) (row now : LineModel) : Type 0 where
  pub cover : length new ≡ length old
  pub width : width now ≡ width row
  pub inside : (k : ℕ) → IsIn s.span k → IsLeft old new row now k ⊎ IsTaken t s.first old new now k
  pub before : (k : ℕ) → k < s.span.from → IsLeft old new row now k
  pub after : (k : ℕ) → s.span.to ≤ k → IsLeft old new row now k

-- ---- levels

-- the positions of a level of entries: those between a group's Push and its Pop, or all
pub record IsLevel (es : List Entry) (l : Level) : Type 0 where
  pub order : l.from ≤ l.to
  pub inside : l.to ≤ length es
  pub place : IsAt es l.depth l.from
  pub end : IsAt es l.depth l.to
  pub within : StaysWithin es l.depth l.from l.to

-- each pixel of a strip has what the level's entries before a position give, or those up to an opaque primitive behind that
abbrev pub AreBegun : Drawing → Level → Strip → ℕ → Depths → LineModel → Type 0
AreBegun d l s at cover row = (k : ℕ) → IsIn s.span k
    → IsBegun d.store.now (entries_of d.entries) l.depth l.from l.to at (x_of s.first k) s.first.y (start_at cover k) (pixel row k)

-- ---- scratch

-- tools for rows of so many pixels
pub record IsFit (n : ℕ) (t : Tools) : Type 0 where
  pub mask : length t.mask.items ≡ n
  pub tint : width t.tint ≡ n

-- a level's rows have so many pixels
pub record IsWide (n : ℕ) (l : LevelRows) : Type 0 where
  pub cover : length l.cover ≡ n
  pub inner : width l.inner ≡ n

abbrev pub AreWide : ℕ → List LevelRows → Type 0
AreWide n rows = All (IsWide n) rows
