use Rattle.span_kernels.proofs.ColourLaws.{over_by_plane, scaled_by_plane, masked_by_plane, blended_by_plane, blended_alpha, woven_pixels}
use Rattle.span_kernels.proofs.laws.kernel_laws.Goals as goal

pub returns : goal.returns
returns c = record { over = over_by_plane; scaled = scaled_by_plane; masked = masked_by_plane; blended = blended_by_plane; alpha = blended_alpha; woven = woven_pixels }
