use Rattle.slice_rules.proofs.Runs.{runs_are, runs_differ, runs_joined, slices_joined, slices_few, slices_some}
use Rattle.slice_rules.proofs.laws.run_laws.Goals as goal

pub returns : goal.returns
returns g c = record { one_home = runs_are; neighbours = runs_differ; all = runs_joined; slices_all = slices_joined; few = slices_few; some = slices_some }
