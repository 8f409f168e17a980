-- Arithmetic: what may stand on a side of an equation has only numbers, paths, operators and parentheses.
use Rattle.utopist_parser.specs.Written.{Expression, choice, plain, Chain, one_term, add, Term, one_factor, mul, Factor, negated, literal, variable, round, call, loop}

abbrev mutual
  -- an expression in parentheses
  pub IsArithExpr : Expression → Type 0
  IsArithExpr (choice a c b met other) = ⊥
  IsArithExpr (plain c) = IsArith c

  -- arith = chain whose factors are only negations, Number, path and "(" arith ")"
  pub IsArith : Chain → Type 0
  IsArith (one_term t) = IsArithTerm t
  IsArith (add c sign t) = IsArith c × IsArithTerm t

  -- a term
  pub IsArithTerm : Term → Type 0
  IsArithTerm (one_factor f) = IsArithFactor f
  IsArithTerm (mul t scale f) = IsArithTerm t × IsArithFactor f

  -- a factor
  pub IsArithFactor : Factor → Type 0
  IsArithFactor (negated f) = IsArithFactor f
  IsArithFactor (literal n) = Unit {0}
  IsArithFactor (variable p) = Unit {0}
  IsArithFactor (round e) = IsArithExpr e
  IsArithFactor (call k place first more) = ⊥
  IsArithFactor (loop kind n first second each) = ⊥
