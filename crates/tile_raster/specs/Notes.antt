-- What drawing asks of an entry in each row, found once.
use Rattle.std.specs.Prelude.{◌≡◌, ℕ, ◌+◌, ◌-◌, ◌^◌, ◌<◌, pos, neg_ℤ, IsTrue, List, All, length, get_or}
use Rattle.wr_geom.specs.Bounds.{Bounds}
use Rattle.clip_masks.specs.Clips.{IsRectClip}
use Rattle.clip_masks.specs.Coverage.{cut_by}
use Rattle.clip_masks.specs.declared.clip.Clip.{Clip}
use Rattle.image_store.specs.StoreModel.{StoreModel, IsStore}
use Rattle.primitives.specs.PrimitiveModel.{PrimitiveModel, IsPrimitive}
use Rattle.primitives.specs.Colours.{visible_rect}
use Rattle.primitives.specs.Facts.{IsEntry, IsOpaque}
use Rattle.primitives.specs.declared.entry.Entry.{Entry}
use Rattle.primitives.specs.declared.entry.Entry.TheVariants as entry
use Rattle.tile_raster.specs.declared.note.Note.{Note}
use Rattle.tile_raster.specs.declared.note.Noted.{Noted}
use Rattle.tile_raster.specs.declared.note.Drawing.{Drawing}
use Rattle.tile_raster.specs.Lists.{entries_of, IsEntryList}
use Rattle.tile_raster.specs.Levels.{IsAt, StaysWithin, IsGroupEnd}

-- the rectangle of all coordinates
abbrev pub everywhere : Bounds
everywhere = record { x0 = neg_ℤ (pos (2 ^ 29)); y0 = neg_ℤ (pos (2 ^ 29)); x1 = pos (2 ^ 29); y1 = pos (2 ^ 29) }

-- of a primitive: its visible rectangle, and only where it is so, that its clips leave all of that and that it is opaque
pub record IsPrimitiveNote (store : StoreModel) (p : PrimitiveModel) (n : Note) : Type 0 where
  pub shown : n.shown ≡ visible_rect p
  pub whole : IsTrue n.is_whole → All IsRectClip p.clips
  pub opaque : IsTrue n.is_opaque → IsOpaque store p.kind

-- of a Push: the rectangle in which its clips leave something, only where it is so, that they leave all of that, and its Pop
pub record IsPushNote (es : List Entry) (i : ℕ) (clips : List Clip) (n : Note) : Type 0 where
  pub shown : n.shown ≡ cut_by everywhere clips
  pub whole : IsTrue n.is_whole → All IsRectClip clips
  pub end : (depth : ℕ) → IsAt es depth i → IsGroupEnd es depth i n.partner

-- a group that ends with the Pop at j was opened by the Push at i
pub record IsGroupStart (es : List Entry) (depth i j : ℕ) : Type 0 where
  pub order : i < j
  pub place : IsAt es depth i
  pub within : StaysWithin es (depth + 1) (i + 1) j

abbrev pub IsNoteOf : StoreModel → List Entry → ℕ → Note → Entry → Type 0
IsNoteOf store es i n (entry.Primitive p) = IsPrimitiveNote store p n
IsNoteOf store es i n (entry.Push opacity mode clips) = IsPushNote es i clips n
IsNoteOf store es i n entry.Pop = (depth : ℕ) → IsAt es (depth + 1) i → IsGroupStart es depth n.partner i

-- a note on the entry at i
abbrev pub IsNote : StoreModel → List Entry → ℕ → Note → Type 0
IsNote store es i n = IsNoteOf store es i n (get_or es i entry.Pop)

-- notes on the first entries
abbrev pub AreNotes : StoreModel → List Entry → List Note → Type 0
AreNotes store es notes = (i : ℕ) (d : Note) → i < length notes → i < length es → IsNote store es i (get_or notes i d)

-- entries that can be drawn with what is stored, and notes on the first of them
pub record IsDrawing (d : Drawing) : Type 0 where
  pub list : IsEntryList d.entries
  pub few : length (entries_of d.entries) < 2 ^ 32
  pub balanced : IsAt (entries_of d.entries) 0 0
  pub entries : All IsEntry (entries_of d.entries)
  pub store : IsStore d.store.now
  pub notes : AreNotes d.store.now (entries_of d.entries) d.notes.now

-- a primitive with a note on it
pub record IsNoted (t : Noted) : Type 0 where
  pub store : IsStore t.store.now
  pub primitive : IsPrimitive t.primitive.now
  pub whole : IsTrue t.is_whole → All IsRectClip t.primitive.now.clips
  pub small : t.number < 2 ^ 32 - 1
