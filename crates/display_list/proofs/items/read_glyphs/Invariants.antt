use Rattle.std.proofs.Common.{◌≡◌, ◌-◌, length}
use Rattle.field_forms.specs.Form.{read}
use Rattle.field_forms.specs.Fields.{times}
use Rattle.display_list.specs.Fields.{glyph}
use Rattle.field_forms.proofs.Repeats.{with_prefix}
use Rattle.display_list.proofs.items.read_glyphs.Given as goal

-- the glyphs so far and those that are left are all
abbrev pub invariant-loop : goal.invariant-loop
invariant-loop l = (length l.found ≡ l.counter) × (with_prefix l.found (read (times (l.count - l.counter) glyph) l.reader) ≡ read (times l.count glyph) l.fn.reader)
