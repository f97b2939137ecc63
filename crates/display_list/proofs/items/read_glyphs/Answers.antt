use Rattle.std.proofs.Common.{◌+◌, ap}
use Rattle.std.proofs.lemmas.List.{length_push}
use Rattle.field_forms.specs.Form.{read}
use Rattle.field_forms.specs.Fields.{times}
use Rattle.display_list.specs.Fields.{glyph}
use Rattle.field_forms.proofs.Repeats.{goes_on}
use Rattle.display_list.proofs.items.read_glyphs.Goals as goal

pub loop-preserved : goal.loop-preserved
loop-preserved c = (
  rw (c.in_ok-push.ensures.ok, length_push c.loop.found c.in_ok-read_glyph.field-0) (ap (λ n. n + 1) c.loop.invariant.0),
  rw c.in_ok-push.ensures.ok
      (goes_on glyph c.args.count c.loop.counter c.loop.reader c.read_glyph.new.reader c.in_ok-read_glyph.field-0 c.loop.found (read (times c.args.count glyph) c.args.reader.now) c.loop-test.true c.in_ok-read_glyph.ensures c.loop.invariant.1),
)
