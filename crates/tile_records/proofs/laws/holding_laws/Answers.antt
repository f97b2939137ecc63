use Rattle.tile_records.proofs.Holding.{acquired_in_parts}
use Rattle.tile_records.proofs.Stays.{held_stay, claimed_stay, covered_are_held}
use Rattle.tile_records.proofs.laws.holding_laws.Goals as goal

pub returns-clause-acquired : goal.returns-clause-acquired
returns-clause-acquired c = acquired_in_parts

pub returns-clause-held : goal.returns-clause-held
returns-clause-held c = held_stay

pub returns-clause-claimed : goal.returns-clause-claimed
returns-clause-claimed c = claimed_stay

pub returns-clause-covered : goal.returns-clause-covered
returns-clause-covered c = covered_are_held
