use Rattle.std.specs.Prelude.{All}
use Rattle.std.proofs.lemmas.List.Elements.{All-push}
use Rattle.primitives.specs.declared.entry.Top.{Top}
use Rattle.primitives.specs.Facts.{IsEntry}
use Rattle.picture_slices.proofs.Moving.{top_more}
use Rattle.picture_slices.proofs.entries.add_tops.Goals as goal

pub loop-top-preserved : goal.loop-top-preserved
loop-top-preserved c = record {
  value =
      top_more c.args.entries.now.items c.loop-top.entries.items c.add_top.new.entries.items c.loop-top.yielded c.in-Some.top c.args.skip c.args.by c.loop-top.invariant.value c.in_ok-add_top.ensures.value;
  good = All-push (λ (t : Top). All IsEntry t.entries) c.loop-top.yielded c.in-Some.top c.loop-top.invariant.good c.in_ok-add_top.ensures.good;
}
