use Rattle.std.proofs.Common.{rules}
use Rattle.wr_geom.specs.Bounds.{has_points}
use Rattle.wr_geom.proofs.Points.{empty_from}
use Rattle.wr_geom.proofs.rect.Rect.is_empty.Goals as goal

pub returns-then-self-clause-points : goal.returns-then-self-clause-points
unfolding has_points
returns-then-self-clause-points c = empty_from c.args.self _ (search rules)

pub returns-clause-points : goal.returns-clause-points
unfolding has_points
returns-clause-points c = empty_from c.args.self _ (search rules)
