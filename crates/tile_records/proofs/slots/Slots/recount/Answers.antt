use Rattle.tile_records.specs.Interning.{Interning}
use Rattle.std.proofs.Common.{◌∙◌, sym, ap}
use Rattle.std.specs.FinMap as map
use Rattle.slab.specs.Slab.{entries}
use Rattle.tile_records.proofs.Views.{slot_is, slab_written, no_value}
use Rattle.std.specs.Option.{option_copied_mut}
use Rattle.tile_records.proofs.Recounts.{recounted_some, recounted_none}
use Rattle.tile_records.proofs.slots.Slots.recount.Goals as goal
use Rattle.tile_records.proofs.slots.Slots.recount.Goals.{in-Some, in_default}

pub returns : goal.returns
returns c = elim c.match-get_mut.branch [
  | in-Some w ↦
      let held = w.in-Some.held.now in
      let seen = sym w.in-Some.ensures.value in
      let at = ap (λ (m : Interning). map.get m c.args.key) (sym c.self.view_is) ∙ slot_is c.self.inside.slab c.args.key ∙ seen in
      ap (λ x. map.from_entries (entries x.slab)) w.self-inside-is
      ∙ slab_written c.self.inside.slab c.args.key held (record { entry = held.entry; count = c.args.count }) seen
      ∙ ap (λ (m : Interning). map.insert m c.args.key (record { entry = held.entry; count = c.args.count })) c.self.view_is
      ∙ sym (recounted_some c.args.self.now c.args.key c.args.count held at)
  | in_default w ↦
      let at = ap (λ (m : Interning). map.get m c.args.key) (sym c.self.view_is) ∙ slot_is c.self.inside.slab c.args.key ∙ sym c.get_mut.ensures.value ∙ ap option_copied_mut (no_value c.get_mut.result w.in_default.not-Some) in
      ap (λ x. map.from_entries (entries x.slab)) w.self-inside-is ∙ c.self.view_is
      ∙ sym (recounted_none c.args.self.now c.args.key c.args.count at)
]
