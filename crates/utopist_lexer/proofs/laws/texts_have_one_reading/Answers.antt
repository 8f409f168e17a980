use Rattle.utopist_lexer.proofs.OneWay.{one_list, one_fault, not_both}
use Rattle.utopist_lexer.proofs.laws.texts_have_one_reading.Goals as goal

pub returns-clause-list : goal.returns-clause-list
returns-clause-list c = one_list

pub returns-clause-fault : goal.returns-clause-fault
returns-clause-fault c = one_fault

pub returns-clause-either : goal.returns-clause-either
returns-clause-either c = not_both
