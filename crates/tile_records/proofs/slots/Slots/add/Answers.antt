use Rattle.tile_records.specs.Interning.{Interning}
use Rattle.std.proofs.Common.{◌∙◌, sym, ap}
use Rattle.std.specs.FinMap as map
use Rattle.tile_records.proofs.Views.{slot_is, slab_inserted}
use Rattle.tile_records.proofs.slots.Slots.add.Goals as goal

pub returns-clause-fresh : goal.returns-clause-fresh
returns-clause-fresh c = sym (ap (λ (m : Interning). map.get m c.in_ok-insert.field-0) c.self.view_is) ∙ slot_is c.self.inside.slab c.in_ok-insert.field-0 ∙ c.in_ok-insert.ensures.was_vacant

pub returns-clause-ok : goal.returns-clause-ok
returns-clause-ok c = slab_inserted c.self.inside.slab c.insert.new.self c.in_ok-insert.field-0 c.args.held c.in_ok-insert.ensures.updates ∙ ap (λ (m : Interning). map.insert m c.in_ok-insert.field-0 c.args.held) c.self.view_is
