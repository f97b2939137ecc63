use Rattle.std.proofs.Common.{◌+◌, ◌-◌, ◌∙◌, ap}
use Rattle.field_forms.specs.Form.{read}
use Rattle.field_forms.specs.Fields.{times}
use Rattle.field_forms.proofs.Repeats.{with_prefix, goes_on}
use Rattle.txn_format.specs.Models.{placed_model, placed_models}
use Rattle.txn_format.specs.Forms.{placed_form}
use Rattle.txn_format.proofs.WholeTxns.{placed_models-push}
use Rattle.txn_format.proofs.reading.operations.Goals as goal

pub loop-preserved : goal.loop-preserved
loop-preserved c =
    let form = placed_form c.args.pipeline in
    let total = read (times c.args.count form) c.args.reader.now in
    ap (λ prefix. with_prefix prefix (read (times (c.args.count - (c.loop.counter + 1)) form) c.placed.new.reader))
    (ap placed_models c.in_ok-push.ensures.items ∙ placed_models-push c.loop.found.items c.in_ok-placed.field-0)
    ∙ goes_on form c.args.count c.loop.counter c.loop.reader c.placed.new.reader (placed_model c.in_ok-placed.field-0) (placed_models c.loop.found.items) total c.loop-test.true c.in_ok-placed.ensures c.loop.invariant
