use Rattle.tile_records.specs.Interning.{Interning}
use Rattle.std.proofs.Common.{◌∙◌, sym, ap}
use Rattle.std.specs.FinMap as map
use Rattle.tile_records.proofs.Views.{slot_is}
use Rattle.tile_records.proofs.slots.Slots.get.Goals as goal

pub returns : goal.returns
returns c = c.get.ensures ∙ sym (slot_is c.self.inside.slab c.args.key) ∙ ap (λ (m : Interning). map.get m c.args.key) c.self.view_is
