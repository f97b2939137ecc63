use Rattle.shown_frames.proofs.Fitting.{views_are_view_parts, picture_slices_are_view_parts, slices_can_be_shown, slices_are_placed, sound_tiles_can_be_shown}
use Rattle.shown_frames.proofs.laws.showing_laws.Goals as goal

pub returns : goal.returns
returns c = record {
  view = views_are_view_parts;
  parts = picture_slices_are_view_parts;
  shown = slices_can_be_shown;
  placed = slices_are_placed;
  tiles = sound_tiles_can_be_shown;
}
