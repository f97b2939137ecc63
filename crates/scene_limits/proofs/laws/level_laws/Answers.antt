use Rattle.scene_limits.proofs.Enough.{items_of_each, places_of_each, more_levels}
use Rattle.scene_limits.proofs.laws.level_laws.Goals as goal

pub returns-clause-items : goal.returns-clause-items
returns-clause-items c = items_of_each

pub returns-clause-places : goal.returns-clause-places
returns-clause-places c = places_of_each

pub returns-clause-more : goal.returns-clause-more
returns-clause-more c = more_levels
