use Rattle.std.proofs.Common.{◌≡◌, ◌<◌, ℕ, length, get_or}
use Rattle.tile_raster.specs.Lists.{entries_of}
use Rattle.tile_raster.specs.declared.note.Note.{Note}
use Rattle.tile_raster.specs.Notes.{IsNote}
use Rattle.tile_raster.proofs.note.fill_notes.Given as goal

abbrev pub invariant-loop-i : goal.invariant-loop-i
invariant-loop-i l = record {
  room : length l.notes ≡ length l.fn.notes;
  done : (k : ℕ) (d : Note) → k < l.i → IsNote l.store (entries_of l.entries) k (get_or l.notes k d);
}
