use Rattle.clip_tree.proofs.Clips.{placed_none, none_leaves_all, placed_after, placed_empty, placed_each, placed_few, placed_by_table, placed_moved}
use Rattle.clip_tree.proofs.laws.placed_laws.Goals as goal

pub returns-clause-none : goal.returns-clause-none
returns-clause-none c = placed_none

pub returns-clause-all : goal.returns-clause-all
returns-clause-all c = none_leaves_all

pub returns-clause-parents : goal.returns-clause-parents
returns-clause-parents c = placed_after

pub returns-clause-empty : goal.returns-clause-empty
returns-clause-empty c = placed_empty

pub returns-clause-each : goal.returns-clause-each
returns-clause-each c = placed_each

pub returns-clause-few : goal.returns-clause-few
returns-clause-few c = placed_few

pub returns-clause-table : goal.returns-clause-table
returns-clause-table c = placed_by_table

pub returns-clause-moved : goal.returns-clause-moved
returns-clause-moved c = placed_moved
