-- The clips of entries, and entries without their outermost ones.
use Rattle.std.specs.Prelude.{ℕ, List, [], drop}
use Rattle.clip_masks.specs.declared.clip.Clip.{Clip}
use Rattle.primitives.specs.PrimitiveModel.{PrimitiveModel}
use Rattle.primitives.specs.declared.entry.Entry.{Entry}
use Rattle.primitives.specs.declared.entry.Entry.TheVariants as entry

-- an entry's own clips, the outermost first
abbrev pub entry_clips : Entry → List Clip
entry_clips (entry.Primitive p) = p.clips
entry_clips (entry.Push opacity mode clips) = clips
entry_clips entry.Pop = []

abbrev pub primitive_without_clips : PrimitiveModel → ℕ → PrimitiveModel
primitive_without_clips p n = record { kind = p.kind; rect = p.rect; clips = drop n p.clips }

-- the entry without its first n clips
abbrev pub without_clips : Entry → ℕ → Entry
without_clips (entry.Primitive p) n = entry.Primitive (primitive_without_clips p n)
without_clips (entry.Push opacity mode clips) n = entry.Push opacity mode (drop n clips)
without_clips entry.Pop n = entry.Pop
