use Rattle.spatial_tree.proofs.Places.{offset-root, offset-near, offset-moved, table-has, table-size, from_parent, near_table}
use Rattle.spatial_tree.proofs.laws.offset_laws.Goals as goal

pub returns-clause-root : goal.returns-clause-root
returns-clause-root c = offset-root

pub returns-clause-parent : goal.returns-clause-parent
returns-clause-parent c = from_parent

pub returns-clause-near : goal.returns-clause-near
returns-clause-near c l m origin node is near h w = offset-near l.nodes m origin node is.nodes near h w

pub returns-clause-moved : goal.returns-clause-moved
returns-clause-moved c = offset-moved

pub returns-clause-table : goal.returns-clause-table
returns-clause-table c = table-has

pub returns-clause-all : goal.returns-clause-all
returns-clause-all c = table-size

pub returns-clause-near_table : goal.returns-clause-near_table
returns-clause-near_table c = near_table
