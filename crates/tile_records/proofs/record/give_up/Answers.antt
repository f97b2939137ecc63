use Rattle.std.proofs.Common.{ap, ◌∙◌}
use Rattle.tile_records.specs.Interning.{ids_keys, record_keys}
use Rattle.tile_records.specs.Counts.{lowered_all}
use Rattle.tile_records.proofs.Claims.{released_moves}
use Rattle.tile_records.proofs.Counting.{released_in_all}
use Rattle.tile_records.proofs.record.give_up.Goals as goal

pub returns : goal.returns
returns c =
    let counts = released_in_all c.args.interner.now c.lower_each.new.interner (record_keys c.args.old) (c.lower_each.ensures ∙ ap (λ x. lowered_all c.args.interner.now (ids_keys x)) c.as_slice.ensures.value) in
    record { counts = counts; moves = released_moves c.args.interner.now c.lower_each.new.interner (record_keys c.args.old) counts }
