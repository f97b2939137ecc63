use Rattle.primitives.proofs.Colours.{colour_is_pixel, covered_is_pixel, clear_where_not_visible, opaque_is_full, opaque_replaces}
use Rattle.primitives.proofs.laws.colour_laws.Goals as goal

pub returns : goal.returns
returns c = record { pixel = colour_is_pixel; covered = covered_is_pixel; not_visible = clear_where_not_visible; full = opaque_is_full; replaces = opaque_replaces }
