use Rattle.std.proofs.Common.{◌*◌}
use Rattle.image_store.specs.Bands.{values}
use Rattle.image_store.proofs.Begun.{IsBegun}
use Rattle.image_store.proofs.making.bands_of.Given as goal

abbrev pub invariant-loop-k : goal.invariant-loop-k
invariant-loop-k l = IsBegun (64 * l.w) (l.h * l.w) l.k l.bytes (values l.bands.items) l.rest
