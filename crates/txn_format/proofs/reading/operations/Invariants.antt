use Rattle.std.proofs.Common.{◌≡◌, ◌-◌}
use Rattle.field_forms.specs.Form.{read}
use Rattle.field_forms.specs.Fields.{times}
use Rattle.field_forms.proofs.Repeats.{with_prefix}
use Rattle.txn_format.specs.Models.{placed_models}
use Rattle.txn_format.specs.Forms.{placed_form}
use Rattle.txn_format.proofs.reading.operations.Given as goal

-- the operations so far and those that are left are all
abbrev pub invariant-loop : goal.invariant-loop
invariant-loop l =
    with_prefix (placed_models l.found.items) (read (times (l.count - l.counter) (placed_form l.pipeline)) l.reader) ≡ read (times l.count (placed_form l.pipeline)) l.fn.reader
