use Rattle.std.proofs.Common.{◌≡◌, ◌-◌, ◌+◌}
use Rattle.field_forms.specs.Form.{AreBytes}
use Rattle.display_list.specs.Decoding.{read_parts, read_list}
use Rattle.display_list.proofs.decoder.read.Given as goal

-- the parts that are left, after those so far, give what all give
abbrev pub invariant-loop : goal.invariant-loop
invariant-loop l = (read_parts (l.own + 1) (l.end - l.counter) l.builder l.reader ≡ read_list (l.own + 1) l.bytes) × AreBytes l.reader.bytes
