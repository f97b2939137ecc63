use Rattle.slice_rules.proofs.Runs.{runs_are, runs_differ, runs_joined, slices_joined, slices_few}
use Rattle.painter.proofs.laws.slice_laws.Goals as goal

pub returns : goal.returns
returns c = record { one_home = runs_are; neighbours = runs_differ; run_tops = runs_joined; slice_tops = slices_joined; few = slices_few }
