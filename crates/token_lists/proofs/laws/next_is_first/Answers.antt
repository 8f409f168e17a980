use Rattle.token_lists.proofs.Steps.{one_from, next_first, end_none, fault_none}
use Rattle.token_lists.proofs.laws.next_is_first.Goals as goal

pub returns-clause-one : goal.returns-clause-one
returns-clause-one c = one_from

pub returns-clause-token : goal.returns-clause-token
returns-clause-token c = next_first

pub returns-clause-end : goal.returns-clause-end
returns-clause-end c = end_none

pub returns-clause-fault : goal.returns-clause-fault
returns-clause-fault c = fault_none
