use Rattle.list_summary.proofs.IframeSums.{summaries_tell}
use Rattle.list_summary.proofs.laws.summary_laws.Goals as goal

pub returns : goal.returns
returns c = record { totals = summaries_tell }
