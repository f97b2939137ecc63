use Rattle.display_list.proofs.ReadLists.{read_spelled, spelled_read, fault_first, first_read}
use Rattle.display_list.proofs.laws.reading_laws.Goals as goal

pub returns-clause-read : goal.returns-clause-read
returns-clause-read c = read_spelled

pub returns-clause-again : goal.returns-clause-again
returns-clause-again c = spelled_read

pub returns-clause-fault : goal.returns-clause-fault
returns-clause-fault c = fault_first

pub returns-clause-first : goal.returns-clause-first
returns-clause-first c = first_read
