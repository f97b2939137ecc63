use Rattle.std.proofs.Common.{ℕ, ◌<◌, get_or}
use Rattle.clip_masks.specs.Clips.{IsRectClip}
use Rattle.clip_masks.specs.declared.clip.Clip.{Clip}
use Rattle.tile_raster.proofs.note.are_rects.Given as goal

abbrev pub invariant-loop-clip : goal.invariant-loop-clip
invariant-loop-clip l = (k : ℕ) (d : Clip) → k < l.clip-index → IsRectClip (get_or l.clips k d)
