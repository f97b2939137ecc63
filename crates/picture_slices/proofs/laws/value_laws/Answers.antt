use Rattle.picture_slices.proofs.Keyed.{paint_the_tops}
use Rattle.picture_slices.proofs.Painting.{shown_is_tops, nothing_else, slice_paints}
use Rattle.picture_slices.proofs.laws.value_laws.Goals as goal

pub returns : goal.returns
returns c = record { shown = shown_is_tops; nothing_else = nothing_else; slice = slice_paints; slices = paint_the_tops }
