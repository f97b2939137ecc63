use Rattle.std.proofs.Common.{subst, ap, sym, ◌∙◌}
use Rattle.display_list.specs.Grammar.{IsSpelled}
use Rattle.display_list.proofs.ListFacts.{spelled_is_list}
use Rattle.display_list.specs.ListModel.{ListModel}
use Rattle.display_list.specs.Trees.{told, trees_of}
use Rattle.display_list.proofs.TreeLaws.{told_law}
use Rattle.display_list.proofs.list.List.items.Goals as goal

pub returns-clause-list : goal.returns-clause-list
returns-clause-list c = spelled_is_list c.args.self.now (subst IsSpelled c.self.view_is c.self.invariant)

pub returns-clause-trees : goal.returns-clause-trees
returns-clause-trees c =
    ap (λ (l : ListModel). told l.items) (sym c.self.view_is) ∙ told_law c.self.inside.items.items ∙ ap trees_of (sym c.as_slice.ensures.value)
