use Rattle.blend_rules.proofs.Pixels.{pixels_of_their_bytes, bytes_of_their_pixels}
use Rattle.blend_rules.proofs.laws.pixel_laws.Goals as goal

pub returns : goal.returns
returns c = record { pixels = pixels_of_their_bytes; bytes = bytes_of_their_pixels }
