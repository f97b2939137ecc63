use Rattle.std.proofs.Common.{◌+◌, ap}
use Rattle.std.proofs.lemmas.List.{length_push}
use Rattle.field_forms.specs.Form.{read}
use Rattle.field_forms.specs.Fields.{times, reference}
use Rattle.field_forms.proofs.Repeats.{goes_on}
use Rattle.display_list.proofs.definitions.read_clip_references.Goals as goal

pub loop-preserved : goal.loop-preserved
loop-preserved c = (
  rw (c.in_ok-push.ensures.ok, length_push c.loop.found c.in_ok-reference.field-0) (ap (λ n. n + 1) c.loop.invariant.0),
  rw c.in_ok-push.ensures.ok
      (goes_on (reference c.args.clips) c.args.count c.loop.counter c.loop.reader c.reference.new.self c.in_ok-reference.field-0 c.loop.found (read (times c.args.count (reference c.args.clips)) c.args.reader.now) c.loop-test.true c.in_ok-reference.ensures.reads c.loop.invariant.1),
)
