use Rattle.txn_format.proofs.TxnWithin.{fault_within}
use Rattle.txn_format.proofs.WholeTxns.{one_fault, no_fault}
use Rattle.txn_format.proofs.laws.txn_fault_laws.Goals as goal

pub returns-clause-one_fault : goal.returns-clause-one_fault
returns-clause-one_fault c = one_fault

pub returns-clause-no_fault : goal.returns-clause-no_fault
returns-clause-no_fault c = no_fault

pub returns-clause-within : goal.returns-clause-within
returns-clause-within c = fault_within
