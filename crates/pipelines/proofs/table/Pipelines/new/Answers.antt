use Rattle.std.proofs.Common.{◌∙◌}
use Rattle.pipelines.proofs.Fitting.{fit_none}
use Rattle.pipelines.proofs.table.Pipelines.new.Goals as goal

pub invariant_of-result : goal.invariant_of-result
invariant_of-result c = (fit_none c.new-2.result (c.new-2.ensures ∙ c.new.ensures), c.blank.ensures)
