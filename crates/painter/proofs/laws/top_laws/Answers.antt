use Rattle.painter.proofs.Frames.{frame_number}
use Rattle.painter.proofs.Picture.{tops_drawn}
use Rattle.painter.proofs.TopColours.{opaque_hides, tops_paint}
use Rattle.painter.proofs.laws.top_laws.Goals as goal

pub returns : goal.returns
returns c = record { drawn = tops_drawn; frame = frame_number; hidden = opaque_hides; scene = tops_paint }
