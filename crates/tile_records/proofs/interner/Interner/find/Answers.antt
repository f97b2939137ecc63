use Rattle.std.proofs.Common.{sym, ap, ◌∙◌}
use Rattle.tile_records.specs.Interning.{Interning, entry_at}
use Rattle.tile_records.proofs.Tied.{tied_absent}
use Rattle.tile_records.proofs.interner.Interner.find.Goals as goal

pub returns-in-None-clause-absent : goal.returns-in-None-clause-absent
returns-in-None-clause-absent c k h =
    tied_absent c.self.inside.keys c.self.inside.slots c.args.entry.now c.self.invariant (sym c.in-None.ensures) k (ap (λ (m : Interning). entry_at m k) c.self.view_is ∙ h)

pub returns-in-Some-clause-found : goal.returns-in-Some-clause-found
returns-in-Some-clause-found c =
    ap (λ (m : Interning). entry_at m c.in-Some.key) (sym c.self.view_is) ∙ c.self.invariant.known c.args.entry.now c.in-Some.key (sym c.in-Some.ensures)
