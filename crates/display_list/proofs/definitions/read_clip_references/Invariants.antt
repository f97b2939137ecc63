use Rattle.std.proofs.Common.{◌≡◌, ◌-◌, length}
use Rattle.field_forms.specs.Form.{read}
use Rattle.field_forms.specs.Fields.{times, reference}
use Rattle.field_forms.proofs.Repeats.{with_prefix}
use Rattle.display_list.proofs.definitions.read_clip_references.Given as goal

-- the references so far and those that are left are all
abbrev pub invariant-loop : goal.invariant-loop
invariant-loop l = (length l.found ≡ l.counter) × (with_prefix l.found (read (times (l.count - l.counter) (reference l.clips)) l.reader) ≡ read (times l.count (reference l.clips)) l.fn.reader)
