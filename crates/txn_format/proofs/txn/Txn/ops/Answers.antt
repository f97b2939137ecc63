use Rattle.std.proofs.Common.{subst}
use Rattle.txn_format.specs.Grammar.{IsTxnSpelled}
use Rattle.txn_format.proofs.TxnSpellings.{is_txn, all_within}
use Rattle.txn_format.proofs.txn.Txn.ops.Goals as goal

pub returns-clause-checked : goal.returns-clause-checked
returns-clause-checked c = is_txn c.args.self.now (subst IsTxnSpelled c.self.view_is c.self.invariant)

pub returns-clause-within : goal.returns-clause-within
returns-clause-within c = all_within c.args.self.now (is_txn c.args.self.now (subst IsTxnSpelled c.self.view_is c.self.invariant))
