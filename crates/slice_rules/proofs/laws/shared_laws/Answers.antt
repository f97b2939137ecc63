use Rattle.slice_rules.proofs.Common.{shared_begin_each, shared_sharable, shared_most, homeless_none}
use Rattle.slice_rules.proofs.laws.shared_laws.Goals as goal

pub returns : goal.returns
returns g c = record { first = shared_begin_each; sharable = shared_sharable; most = shared_most; homeless = homeless_none }
