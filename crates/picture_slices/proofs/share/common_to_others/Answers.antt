use Rattle.std.proofs.Common.{ℕ, drop, ap, sym, ◌∙◌}
use Rattle.picture_slices.specs.CommonCount.{common_count}
use Rattle.picture_slices.specs.TopClips.{clips_of_top}
use Rattle.picture_slices.proofs.Sharing.{count_none}
use Rattle.picture_slices.proofs.share.common_to_others.Goals as goal

pub returns-then-shared-eq0 : goal.returns-then-shared-eq0
returns-then-shared-eq0 c =
    let clips = clips_of_top c.args.first.now in
    let left = drop c.loop-top.top-index c.args.others.now in
    sym (count_none clips left) ∙ sym (ap (λ (n : ℕ). common_count clips n left) c.if-shared-eq0.true) ∙ c.loop-top.invariant.value
