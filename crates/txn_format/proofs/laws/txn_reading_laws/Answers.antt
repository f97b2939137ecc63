use Rattle.txn_format.proofs.WholeTxns.{txn_found, txn_again, txn_failed, fault_again}
use Rattle.txn_format.proofs.laws.txn_reading_laws.Goals as goal

pub returns-clause-read : goal.returns-clause-read
returns-clause-read c = txn_found

pub returns-clause-again : goal.returns-clause-again
returns-clause-again c = txn_again

pub returns-clause-fault : goal.returns-clause-fault
returns-clause-fault c = txn_failed

pub returns-clause-first : goal.returns-clause-first
returns-clause-first c = fault_again
