use Rattle.std.proofs.Common.{subst, sym}
use Rattle.tile_records.specs.Keys.{IsTied}
use Rattle.tile_records.proofs.Tied.{tied_recounted}
use Rattle.tile_records.proofs.interner.Interner.recount.Goals as goal

pub invariant_of-self : goal.invariant_of-self
invariant_of-self c = subst (IsTied c.self.inside.keys) (sym c.recount.ensures) (tied_recounted c.self.inside.keys c.self.inside.slots c.args.id.key c.args.count c.self.invariant)
