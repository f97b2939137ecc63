use Rattle.std.proofs.Common.{arith}
use Rattle.field_forms.proofs.Bytes.{are_bytes}
use Rattle.txn_format.proofs.WholeTxns.{is_found, is_only, is_faulty}
use Rattle.txn_format.proofs.reading.read_txn.Goals as goal

pub returns-clause-found : goal.returns-clause-found
returns-clause-found c = is_found c.args.payload.now c.read.result (are_bytes c.args.payload.now (λ i. omega (arith, c.type_inv.payload i))) c.read.ensures

pub returns-clause-only : goal.returns-clause-only
returns-clause-only c = is_only c.args.payload.now c.read.result c.read.ensures

pub returns-clause-faulty : goal.returns-clause-faulty
returns-clause-faulty c = is_faulty c.args.payload.now c.read.result (are_bytes c.args.payload.now (λ i. omega (arith, c.type_inv.payload i))) c.read.ensures
