use Rattle.shown_frames.proofs.Apart.{tiles_are_apart}
use Rattle.shown_frames.proofs.Counting.{tiles_are_few}
use Rattle.shown_frames.proofs.Fitting.{tiles_are_current}
use Rattle.shown_frames.proofs.Painted.{tiles_paint_slices}
use Rattle.shown_frames.proofs.laws.frame_laws.Goals as goal

pub returns : goal.returns
returns c = record { composed = tiles_paint_slices; apart = tiles_are_apart; few = tiles_are_few; current = tiles_are_current }
