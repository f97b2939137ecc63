use Rattle.std.proofs.Common.{◌≡◌, ◌++◌, drop}
use Rattle.std.specs.List.{flat_map}
use Rattle.display_list.specs.Spelling.{clip_bytes}
use Rattle.display_list.proofs.encoder.put_clips.Given as goal

-- what is written and what is left are all
abbrev pub invariant-loop-clip : goal.invariant-loop-clip
invariant-loop-clip l = l.out.items ++ flat_map clip_bytes (drop l.clip-index l.clips) ≡ l.fn.out.items ++ flat_map clip_bytes l.clips
