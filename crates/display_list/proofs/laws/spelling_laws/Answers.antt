use Rattle.display_list.proofs.ReadLists.{one_list, none_begins}
use Rattle.display_list.proofs.ListFacts.{spelled_is_list, list_is_spelled}
use Rattle.display_list.proofs.Spellings.{spelled}
use Rattle.display_list.proofs.laws.spelling_laws.Goals as goal

pub returns-clause-one_spelling : goal.returns-clause-one_spelling
returns-clause-one_spelling c = spelled 0

pub returns-clause-one_list : goal.returns-clause-one_list
returns-clause-one_list c = one_list

pub returns-clause-none_begins : goal.returns-clause-none_begins
returns-clause-none_begins c = none_begins

pub returns-clause-lists : goal.returns-clause-lists
returns-clause-lists c = spelled_is_list

pub returns-clause-spelled : goal.returns-clause-spelled
returns-clause-spelled c = list_is_spelled
