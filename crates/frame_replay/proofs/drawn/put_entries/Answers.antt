use Rattle.std.proofs.Common.{◌≡◌, ◌++◌, ℕ, ap, sym, append-nil, ◌∙◌, arith}
use Rattle.std.specs.List.{flat_map}
use Rattle.frame_replay.specs.Drawn.{drawn_below, drawn_pipelines, entry_bytes}
use Rattle.frame_replay.proofs.Marks.{entries_more}
use Rattle.frame_replay.proofs.drawn.put_entries.Goals as goal

pub loop-pipeline-init : goal.loop-pipeline-init
unfolding drawn_below
loop-pipeline-init c = record { put = sym (append-nil c.args.out.now.items); last = omega arith }

pub loop-pipeline-preserved : goal.loop-pipeline-preserved
loop-pipeline-preserved c =
    record {
      put = entries_more c.loop-pipeline.pipeline c.args.scene.now.pipelines c.drawn_epoch.result c.args.out.now.items c.loop-pipeline.out.items c.put_entry.new.out.items
          c.drawn_epoch.ensures c.loop-pipeline.invariant.put c.in_ok-put_entry.ensures;
      last = omega arith;
    }

pub returns : goal.returns
unfolding drawn_pipelines
returns c =
    let all : c.loop-pipeline.pipeline ≡ 64 = omega (arith, c.loop-pipeline.invariant.last) in
    c.loop-pipeline.invariant.put ∙ ap (λ (n : ℕ). c.args.out.now.items ++ flat_map entry_bytes (drawn_below n c.args.scene.now.pipelines)) all
