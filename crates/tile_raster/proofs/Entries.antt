-- Entries of a list, and notes on them.
use Rattle.std.proofs.Common.{◌≡◌, ℕ, ◌<◌, ◌≤◌, List, All, length, get_or, inl, inr, sym, subst, ◌∙◌, arith}
use Rattle.std.proofs.lemmas.Bool.{cases_lt}
use Rattle.std.proofs.lemmas.List.{get_or_default}
use Rattle.std.proofs.lemmas.List.Elements.{All-get_or}
use Rattle.image_store.specs.StoreModel.{StoreModel}
use Rattle.primitives.specs.Facts.{IsEntry}
use Rattle.primitives.specs.declared.entry.Entry.{Entry}
use Rattle.primitives.specs.declared.entry.Entry.TheVariants as entry
use Rattle.tile_raster.specs.declared.note.Note.{Note}
use Rattle.tile_raster.specs.Levels.{IsAt}
use Rattle.tile_raster.specs.Notes.{IsGroupStart, IsNote, IsNoteOf}

-- an entry that was read
pub entry_is : (es : List Entry) (i : ℕ) (r e : Entry) → i < length es → r ≡ get_or es i r → r ≡ e → get_or es i entry.Pop ≡ e
entry_is es i r e h is same = get_or_default es i entry.Pop r h ∙ sym is ∙ same

pub fact_at : (es : List Entry) (i : ℕ) (e : Entry) → All IsEntry es → i < length es → get_or es i entry.Pop ≡ e → IsEntry e
fact_at es i e all h is = subst IsEntry is (All-get_or IsEntry es i entry.Pop h all)

pub note_is : (store : StoreModel) (es : List Entry) (i : ℕ) (n : Note) (e : Entry) → get_or es i entry.Pop ≡ e → IsNote store es i n → IsNoteOf store es i n e
note_is store es i n e is h = subst (λ (z : Entry). IsNoteOf store es i n z) is h

-- a group that ends in a level began in it
pub starts_inside : (es : List Entry) (depth from i j : ℕ) → IsAt es depth from → from ≤ j → IsGroupStart es depth i j → from ≤ i
starts_inside es depth from i j at h s = elim (cases_lt i from) [
  | inr more ↦ more
  | inl less ↦ absurd (omega (arith, s.within from depth (omega (arith, less)) h at))
]
