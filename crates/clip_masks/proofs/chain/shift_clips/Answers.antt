use Rattle.std.proofs.Common.{set, sym, ap, ◌∙◌}
use Rattle.std.proofs.lemmas.List.Edits.{map_over_more}
use Rattle.clip_masks.specs.Clips.{shifted_clip}
use Rattle.clip_masks.specs.declared.clip.Clip.{Clip}
use Rattle.clip_masks.proofs.chain.shift_clips.Goals as goal

pub loop-clip-preserved : goal.loop-clip-preserved
loop-clip-preserved c =
    let f = λ (k : Clip). shifted_clip k c.args.by in
    ap (set c.loop-clip.clips c.loop-clip.clip-index) (c.shift.ensures.value ∙ ap f (sym c.clip-item.is))
    ∙ map_over_more f c.args.clips.now c.loop-clip.clips c.loop-clip.clip-index c.clip-item.result c.loop-clip-test.true c.loop-clip.invariant c.clip-item.is
