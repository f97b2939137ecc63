use Rattle.tile_records.specs.Interning.{Interning}
use Rattle.std.proofs.Common.{◌∙◌, sym, ap}
use Rattle.std.specs.FinMap as map
use Rattle.tile_records.proofs.Views.{slot_is, slab_removed}
use Rattle.tile_records.proofs.slots.Slots.remove.Goals as goal

pub returns-clause-taken : goal.returns-clause-taken
returns-clause-taken c = c.try_remove.ensures.value ∙ sym (slot_is c.self.inside.slab c.args.key) ∙ ap (λ (m : Interning). map.get m c.args.key) c.self.view_is

pub returns-clause-removed : goal.returns-clause-removed
returns-clause-removed c = slab_removed c.self.inside.slab c.try_remove.new.self c.args.key c.try_remove.ensures.updates ∙ ap (λ (m : Interning). map.remove m c.args.key) c.self.view_is
