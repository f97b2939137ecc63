use Rattle.txn_format.proofs.WholeTxns.{one_txn, none_begins}
use Rattle.txn_format.proofs.TxnSpellings.{spelling_is_txn}
use Rattle.txn_format.proofs.laws.txn_spelling_laws.Goals as goal

pub returns-clause-spelling : goal.returns-clause-spelling
returns-clause-spelling c = spelling_is_txn

pub returns-clause-one_txn : goal.returns-clause-one_txn
returns-clause-one_txn c = one_txn

pub returns-clause-none_begins : goal.returns-clause-none_begins
returns-clause-none_begins c = none_begins
