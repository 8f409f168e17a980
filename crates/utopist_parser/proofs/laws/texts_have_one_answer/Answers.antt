use Rattle.utopist_parser.proofs.OneAnswer.{one_tree, one_failure, not_tree_and_fault}
use Rattle.utopist_parser.proofs.laws.texts_have_one_answer.Goals as goal

pub returns-clause-trees : goal.returns-clause-trees
returns-clause-trees c = one_tree

pub returns-clause-faults : goal.returns-clause-faults
returns-clause-faults c = one_failure

pub returns-clause-either : goal.returns-clause-either
returns-clause-either c = not_tree_and_fault
