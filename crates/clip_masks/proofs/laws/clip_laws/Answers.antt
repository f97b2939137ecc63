use Rattle.clip_masks.proofs.Chains.{coverage_byte}
use Rattle.clip_masks.proofs.Clips.{same_clips}
use Rattle.clip_masks.proofs.Moves.{shifted_samples, shifted_coverage}
use Rattle.clip_masks.proofs.laws.clip_laws.Goals as goal

pub returns : goal.returns
returns c = record { byte = coverage_byte; same = same_clips; moved_samples = shifted_samples; moved_pixels = shifted_coverage }
