use Rattle.std.proofs.Common.{◌≡◌, ◌≤◌, ◌<◌, ℕ, slice_index}
use Rattle.tile_raster.proofs.opaque.first_partial.Given as goal

abbrev pub invariant-loop-k : goal.invariant-loop-k
invariant-loop-k l = (j : ℕ) → l.span.from ≤ j → j < l.k → slice_index l.mask j ≡ 255
