use Rattle.tile_records.proofs.Tied.{tied_empty}
use Rattle.tile_records.proofs.interner.Interner.new.Goals as goal

pub invariant_of-result : goal.invariant_of-result
invariant_of-result c = rw (c.new.ensures, c.new-2.ensures) tied_empty
