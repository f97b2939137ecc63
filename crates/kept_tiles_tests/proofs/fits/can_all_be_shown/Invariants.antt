use Rattle.std.proofs.Common.{◌<◌, ℕ, get_or}
use Rattle.kept_tiles.specs.Steps.{CanBeShown}
use Rattle.picture_slices.specs.declared.slice.Slice.{Slice}
use Rattle.kept_tiles_tests.proofs.fits.can_all_be_shown.Given as goal

abbrev pub invariant-loop-slice : goal.invariant-loop-slice
invariant-loop-slice l = (k : ℕ) (d : Slice) → k < l.slice-index → CanBeShown l.store (get_or l.slices k d)
