use Rattle.std.proofs.Common.{subst}
use Rattle.tile_records.specs.Interning.{IsInterning}
use Rattle.tile_records.proofs.Tied.{tied_interning}
use Rattle.tile_records.proofs.interner.know_interner.Goals as goal

pub returns : goal.returns
returns c = subst IsInterning c.interner.view_is (tied_interning c.interner.inside.keys c.interner.inside.slots c.interner.invariant)
