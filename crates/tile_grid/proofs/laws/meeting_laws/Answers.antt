use Rattle.tile_grid.proofs.Meetings.{meets_points, meets_commutes}
use Rattle.tile_grid.proofs.laws.meeting_laws.Goals as goal

pub returns : goal.returns
returns c = record { points = meets_points; commutes = meets_commutes }
