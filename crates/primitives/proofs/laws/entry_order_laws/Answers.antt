use Rattle.primitives.proofs.laws.entry_order_laws.Goals as goal

pub returns : goal.returns
returns c = record { equality = c.exact_laws.ensures.equality c.entry_equality.ensures; order = c.exact_laws.ensures.order c.entry_equality.ensures }
