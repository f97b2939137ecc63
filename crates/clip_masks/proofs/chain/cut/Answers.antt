use Rattle.std.proofs.Common.{◌≡◌, sym, ap, ◌∙◌}
use Rattle.wr_geom.specs.Bounds.{Bounds, holds}
use Rattle.clip_masks.specs.Coverage.{cut_by}
use Rattle.clip_masks.proofs.Chains.{cut_none, cut_step, cut_inside, beside_cut, within_cut, take_all}
use Rattle.clip_masks.proofs.chain.cut.Goals as goal

pub loop-clip-init : goal.loop-clip-init
loop-clip-init c = sym (cut_none c.args.rect)

pub loop-clip-preserved : goal.loop-clip-preserved
loop-clip-preserved c =
    cut_step c.args.clips.now c.loop-clip.clip-index c.clip-item.result c.args.rect c.loop-clip.left c.cut_once-left.result c.loop-clip-test.true c.loop-clip.invariant c.clip-item.is c.cut_once-left.ensures

all_taken : (c : goal.After-loop-clip) → c.loop-clip.left ≡ cut_by c.args.rect c.args.clips.now
all_taken c = c.loop-clip.invariant ∙ ap (cut_by c.args.rect) (take_all c.loop-clip.clip-index c.args.clips.now c.loop-clip-test.false)

pub returns-clause-beside : goal.returns-clause-beside
returns-clause-beside c outer x y l h n = beside_cut c.args.rect c.args.clips.now outer x y l h (ap (λ (b : Bounds). holds b x y) (sym (all_taken c)) ∙ n)

pub returns-clause-within : goal.returns-clause-within
returns-clause-within c outer x y all h = within_cut c.args.rect c.args.clips.now outer x y all (ap (λ (b : Bounds). holds b x y) (sym (all_taken c)) ∙ h)

pub returns-clause-inside : goal.returns-clause-inside
returns-clause-inside c x y h = cut_inside c.args.rect c.args.clips.now x y (ap (λ (b : Bounds). holds b x y) (sym (all_taken c)) ∙ h)
