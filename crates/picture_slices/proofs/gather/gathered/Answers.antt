use Rattle.std.proofs.Common.{List, ap, ◌∙◌}
use Rattle.primitives.specs.declared.entry.Top.{Top}
use Rattle.slice_rules.specs.Runs.{Run}
use Rattle.picture_slices.specs.Gathered.{after_runs}
use Rattle.picture_slices.proofs.Gathers.{slices-more}
use Rattle.picture_slices.proofs.gather.gathered.Goals as goal

pub loop-top-preserved : goal.loop-top-preserved
loop-top-preserved c = record {
  value = c.in_ok-add.ensures.value ∙ ap (λ (rs : List (Run Top)). after_runs 7 rs c.in-Some.top) c.loop-top.invariant.value ∙ slices-more c.loop-top.yielded c.in-Some.top;
  room = c.in_ok-add.ensures.room;
}
