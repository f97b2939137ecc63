use Rattle.painter.proofs.Contexts.{plain_items, plain_tops, group_on_clear}
use Rattle.painter.proofs.laws.context_laws.Goals as goal

pub returns : goal.returns
returns c = record { plain = plain_items; plain_tops = plain_tops; group = group_on_clear }
