use Rattle.std.proofs.Common.{[], refl, arith}
use Rattle.std.proofs.lemmas.List.Elements.{All-nil, All-cons}
use Rattle.statement_set.specs.Formula.{atom}
use Rattle.statement_set.specs.Derivation.{Follows, derives}
use Rattle.statement_set.specs.Goal.{hypotheses}
use Rattle.statement_set.specs.Worked.{squares_sum, squares_tree}
use Rattle.statement_set.proofs.worked.squares_sum_derived.Goals as goal

tree : derives squares_tree (hypotheses squares_sum) (atom 3)
tree = (((1, omega arith, refl), (0, omega arith, refl)), (2, omega arith, refl))

pub returns-clause-tree : goal.returns-clause-tree
returns-clause-tree c = tree

pub returns-clause-goal : goal.returns-clause-goal
returns-clause-goal c = All-cons (λ w. Follows (hypotheses squares_sum) (atom w)) 3 [] (squares_tree, tree) (All-nil (λ w. Follows (hypotheses squares_sum) (atom w)))
