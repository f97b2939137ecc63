use Rattle.std.proofs.Common.{◌≡◌, subst, ap, arith}
use Rattle.txn_format.specs.Txn.{TxnModel}
use Rattle.txn_format.specs.Grammar.{IsTxnSpelled}
use Rattle.txn_format.proofs.TxnSpellings.{fits_payload}
use Rattle.txn_format.proofs.txn.Txn.len.Goals as goal

pub returns-clause-bound : goal.returns-clause-bound
returns-clause-bound c =
    let same : c.self.inside.fields.len ≡ c.args.self.now.len = ap (λ (t : TxnModel). t.len) c.self.view_is in
    omega (arith, same, fits_payload c.args.self.now (subst IsTxnSpelled c.self.view_is c.self.invariant))
