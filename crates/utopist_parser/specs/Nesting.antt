-- How deep what is written is nested: a number or a path has 1, and all that has parts has one more than the most of them.
use Rattle.std.specs.Prelude.{ℕ, suc, max}
use Rattle.utopist_parser.specs.Written.{Expression, choice, plain, Chain, one_term, add, Term, one_factor, mul, Factor, negated, literal, variable, round, call, loop, Further, no_more, and_then}

abbrev mutual
  -- an expression
  pub nest_expr : Expression → ℕ
  nest_expr (choice a c b met other) = suc (max (max (nest_chain a) (nest_chain b)) (max (nest_expr met) (nest_expr other)))
  nest_expr (plain c) = nest_chain c

  -- terms that are added and subtracted
  pub nest_chain : Chain → ℕ
  nest_chain (one_term t) = nest_term t
  nest_chain (add c sign t) = suc (max (nest_chain c) (nest_term t))

  -- factors that are multiplied and divided
  pub nest_term : Term → ℕ
  nest_term (one_factor f) = nest_factor f
  nest_term (mul t scale f) = suc (max (nest_term t) (nest_factor f))

  -- a factor
  pub nest_factor : Factor → ℕ
  nest_factor (negated f) = suc (nest_factor f)
  nest_factor (literal n) = 1
  nest_factor (variable p) = 1
  nest_factor (round e) = suc (nest_expr e)
  nest_factor (call k place first more) = suc (max (nest_expr first) (nest_exprs more))
  nest_factor (loop kind n first second each) = suc (max (nest_expr first) (max (nest_expr second) (nest_expr each)))

  -- the most of further arguments, or 0
  pub nest_exprs : Further → ℕ
  nest_exprs no_more = 0
  nest_exprs (and_then e more) = max (nest_expr e) (nest_exprs more)
