use Rattle.std.proofs.Common.{◌≡◌, ℕ, Option, length, refl, ap, ◌∙◌, arith}
use Rattle.frame_replay.specs.Drawn.{drawn_below, drawn_pipelines, numbered}
use Rattle.frame_replay.proofs.Marks.{count_more}
use Rattle.frame_replay.proofs.drawn.count_drawn.Goals as goal

pub loop-pipeline-init : goal.loop-pipeline-init
unfolding drawn_below
loop-pipeline-init c = record { count = refl; low = omega arith; last = omega arith }

pub loop-pipeline-preserved : goal.loop-pipeline-preserved
loop-pipeline-preserved c =
    let ps = c.args.scene.now.pipelines in
    let p = c.loop-pipeline.pipeline in
    let one = c.entry_count-count.ensures.value p ∙ ap (λ (epoch : Option ℕ). length (numbered p epoch)) c.drawn_epoch.ensures in
    record {
      count = count_more p ps c.loop-pipeline.count c.entry_count-count.result c.loop-pipeline.invariant.count one;
      low = omega (arith, c.loop-pipeline.invariant.low, c.entry_count-count.ensures.most);
      last = omega arith;
    }

pub returns : goal.returns
unfolding drawn_pipelines
returns c =
    let all : c.loop-pipeline.pipeline ≡ 64 = omega (arith, c.loop-pipeline.invariant.last) in
    c.loop-pipeline.invariant.count ∙ ap (λ (n : ℕ). length (drawn_below n c.args.scene.now.pipelines)) all
