use Rattle.std.proofs.Common.{subst, sym, ◌∙◌}
use Rattle.tile_records.specs.Keys.{IsTied}
use Rattle.tile_records.proofs.Recounts.{removed_none}
use Rattle.tile_records.proofs.Tied.{tied_removed}
use Rattle.tile_records.proofs.Views.{no_value}
use Rattle.tile_records.proofs.interner.Interner.forget.Goals as goal

pub invariant_of-self : goal.invariant_of-self
invariant_of-self c =
    rw (c.remove-in-Some.ensures, c.in-Some.ensures.removed)
    (tied_removed (λ a b h. (c.entry_order_laws.ensures.order a b).0 h) c.self.inside.keys c.self.inside.slots c.args.id.key c.in-Some.held c.self.invariant (sym c.in-Some.ensures.taken))

pub invariant_of-self-in_default : goal.invariant_of-self-in_default
invariant_of-self-in_default c =
    let none = sym c.remove.ensures.taken ∙ no_value c.remove.result c.in_default.not-Some in
    subst (IsTied c.self.inside.keys) (sym (c.remove.ensures.removed ∙ removed_none c.self.inside.slots c.args.id.key none)) c.self.invariant

pub invariant_of-self-in-Some-2 : goal.invariant_of-self-in-Some-2
invariant_of-self-in-Some-2 c =
    rw (c.remove-in-Some.ensures, c.in-Some.ensures.removed)
    (tied_removed (λ a b h. (c.entry_order_laws.ensures.order a b).0 h) c.self.inside.keys c.self.inside.slots c.args.id.key c.in-Some.held c.self.invariant (sym c.in-Some.ensures.taken))

pub invariant_of-self-in-Some-3 : goal.invariant_of-self-in-Some-3
invariant_of-self-in-Some-3 c =
    rw (c.remove-in-Some.ensures, c.in-Some.ensures.removed)
    (tied_removed (λ a b h. (c.entry_order_laws.ensures.order a b).0 h) c.self.inside.keys c.self.inside.slots c.args.id.key c.in-Some.held c.self.invariant (sym c.in-Some.ensures.taken))
