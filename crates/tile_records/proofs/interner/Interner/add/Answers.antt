use Rattle.std.proofs.Common.{sym, ap, ◌∙◌}
use Rattle.std.specs.FinMap as map
use Rattle.tile_records.specs.Interning.{Interning, entry_at}
use Rattle.tile_records.proofs.Recounts.{removed_inserted}
use Rattle.tile_records.proofs.Tied.{tied_added}
use Rattle.tile_records.proofs.interner.Interner.add.Goals as goal

pub invariant_of-self-in-Ok : goal.invariant_of-self-in-Ok
invariant_of-self-in-Ok c =
    rw (c.in-Ok.ensures.ok, c.in_ok-key.ensures.ok, c.requires.twins)
    (tied_added (λ a b h. (c.entry_order_laws.ensures.order a b).0 h) c.self.inside.keys c.self.inside.slots c.args.entry c.in_ok-key.key 0 c.self.invariant c.requires.entry c.in_ok-key.ensures.fresh
    (λ i h. c.requires.absent i (ap (λ (m : Interning). entry_at m i) (sym c.self.view_is) ∙ h)))

pub invariant_of-self-in-Err : goal.invariant_of-self-in-Err
invariant_of-self-in-Err c =
    rw (c.in-Err.ensures.err, c.remove.ensures.removed, c.in_ok-key.ensures.ok, removed_inserted c.self.inside.slots c.in_ok-key.key (record { entry = c.args.entry; count = 0 }) c.in_ok-key.ensures.fresh) c.self.invariant

pub returns-in-Err-clause-err : goal.returns-in-Err-clause-err
returns-in-Err-clause-err c =
    c.remove.ensures.removed ∙ ap (λ (m : Interning). map.remove m c.in_ok-key.key) c.in_ok-key.ensures.ok
    ∙ removed_inserted c.self.inside.slots c.in_ok-key.key (record { entry = c.args.entry; count = 0 }) c.in_ok-key.ensures.fresh ∙ c.self.view_is
