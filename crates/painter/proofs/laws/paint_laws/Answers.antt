use Rattle.painter.proofs.Levels.{more_colours, more_tops, list_painted, list_has_tops}
use Rattle.painter.proofs.laws.paint_laws.Goals as goal

pub returns : goal.returns
returns c = record { colours = more_colours; tops = more_tops; list = list_painted; list_tops = list_has_tops }
