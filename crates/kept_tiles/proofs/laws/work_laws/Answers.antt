use Rattle.kept_tiles.proofs.Shows.{work_keeps_one_key, work_shows}
use Rattle.kept_tiles.proofs.laws.work_laws.Goals as goal

pub returns-clause-shows : goal.returns-clause-shows
returns-clause-shows c = work_shows

pub returns-clause-keys : goal.returns-clause-keys
returns-clause-keys c = work_keeps_one_key
