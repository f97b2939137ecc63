use Rattle.std.proofs.Common.{subst}
use Rattle.display_list.specs.Grammar.{IsSpelled}
use Rattle.display_list.proofs.ListFacts.{spelled_is_list}
use Rattle.display_list.proofs.list.List.clips.Goals as goal

pub returns-clause-list : goal.returns-clause-list
returns-clause-list c = spelled_is_list c.args.self.now (subst IsSpelled c.self.view_is c.self.invariant)
