use Rattle.std.proofs.Common.{arith, ap, sym, ◌∙◌}
use Rattle.wr_io.specs.Unread.{Unread}
use Rattle.field_forms.specs.Form.{read}
use Rattle.field_forms.proofs.Bytes.{are_bytes}
use Rattle.txn_format.specs.Models.{txn_model}
use Rattle.txn_format.specs.Forms.{txn_form}
use Rattle.txn_format.proofs.WholeTxns.{is_spelled}
use Rattle.txn_format.proofs.reading.read.Goals as goal

pub new-requires : goal.new-requires
new-requires c =
    is_spelled c.args.payload.now (txn_model c.in_ok-fields.fields) c.fields.new.reader (are_bytes c.args.payload.now (λ i. omega (arith, c.type_inv.payload i)))
    c.requires
    (ap (λ (u : Unread). read txn_form u) (sym c.new-reader.ensures) ∙ c.in_ok-fields.ensures)
    c.in_ok-finish.ensures
