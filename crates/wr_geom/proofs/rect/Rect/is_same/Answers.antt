use Rattle.std.proofs.Common.{sym, ◌∙◌}
use Rattle.wr_geom.specs.Bounds.{same_rect}
use Rattle.wr_geom.proofs.Sames.{same_rect-true, same_rect-of}
use Rattle.wr_geom.proofs.rect.Rect.is_same.Goals as goal

pub returns-clause-same : goal.returns-clause-same
unfolding same_rect
returns-clause-same c = (λ h. same_rect-true c.args.self c.args.o (sym c.eq.ensures ∙ h), λ e. c.eq.ensures ∙ same_rect-of c.args.self c.args.o e)
