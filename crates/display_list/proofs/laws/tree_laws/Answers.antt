use Rattle.display_list.proofs.TreeLaws.{told_law, one_tree}
use Rattle.display_list.proofs.TreeFacts.{trees_tell, list_trees, trees_are_low, fits_trees, trees_fit}
use Rattle.display_list.proofs.laws.tree_laws.Goals as goal

pub returns-clause-told : goal.returns-clause-told
returns-clause-told c = told_law

pub returns-clause-one : goal.returns-clause-one
returns-clause-one c = one_tree

pub returns-clause-tokens : goal.returns-clause-tokens
returns-clause-tokens c = trees_tell

pub returns-clause-fields : goal.returns-clause-fields
returns-clause-fields c = list_trees

pub returns-clause-low : goal.returns-clause-low
returns-clause-low c = trees_are_low

pub returns-clause-fit : goal.returns-clause-fit
returns-clause-fit c own l h = (fits_trees own l h, trees_fit own l h)
