use Rattle.tile_records.proofs.Grouping.{picked_of_group}
use Rattle.tile_records.proofs.Picking.{picked_has_values, picked_is_balanced, picked_is_shallow, picked_are_entries}
use Rattle.tile_records.proofs.laws.picking_laws.Goals as goal

pub returns-clause-group : goal.returns-clause-group
returns-clause-group c = picked_of_group

pub returns-clause-values : goal.returns-clause-values
returns-clause-values c = picked_has_values

pub returns-clause-balanced : goal.returns-clause-balanced
returns-clause-balanced c = picked_is_balanced

pub returns-clause-shallow : goal.returns-clause-shallow
returns-clause-shallow c = picked_is_shallow

pub returns-clause-entries : goal.returns-clause-entries
returns-clause-entries c = picked_are_entries
