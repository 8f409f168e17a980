use Rattle.priz_frac.proofs.Operations.{low-sum, low-difference, low-product, low-quotient, low-negative, order-low, low-is_zero}
use Rattle.priz_frac.proofs.laws.operations_go_by_lowest_terms.Goals as goal

pub returns-clause-sum : goal.returns-clause-sum
returns-clause-sum c = low-sum

pub returns-clause-difference : goal.returns-clause-difference
returns-clause-difference c = low-difference

pub returns-clause-product : goal.returns-clause-product
returns-clause-product c = low-product

pub returns-clause-quotient : goal.returns-clause-quotient
returns-clause-quotient c = low-quotient

pub returns-clause-negative : goal.returns-clause-negative
returns-clause-negative c = low-negative

pub returns-clause-order : goal.returns-clause-order
returns-clause-order c = order-low

pub returns-clause-zero_test : goal.returns-clause-zero_test
returns-clause-zero_test c = low-is_zero
