-- The tree of what is written as an expression: parentheses vanish.
use Rattle.std.specs.Prelude.{pos}
use Rattle.body_lang.specs.declared.op.Op.{Op}
use Rattle.body_lang.specs.declared.op.Op.TheVariants as ops
use Rattle.utopist_syntax.specs.ExprTree as tree
use Rattle.utopist_syntax.specs.ExprTree.{ExprTree, ExprTrees}
use Rattle.utopist_parser.specs.Written.{Sign, plus, minus, Scale, times, over, Expression, choice, plain, Chain, one_term, add, Term, one_factor, mul, Factor, negated, literal, variable, round, call, loop, Further, no_more, and_then}
use Rattle.token_forms.specs.Lists.{all_of}

-- the operator of a sign
abbrev pub sign_op : Sign → Op
sign_op plus = ops.Add
sign_op minus = ops.Sub

-- the operator of a scale
abbrev pub scale_op : Scale → Op
scale_op times = ops.Mul
scale_op over = ops.Div

abbrev mutual
  -- an expression's tree
  pub see_expr : Expression → ExprTree
  see_expr (choice a c b met other) = tree.choice c (see_chain a) (see_chain b) (see_expr met) (see_expr other)
  see_expr (plain c) = see_chain c

  -- a sum's or difference's tree
  pub see_chain : Chain → ExprTree
  see_chain (one_term t) = see_term t
  see_chain (add c sign t) = tree.op (sign_op sign) (see_chain c) (see_term t)

  -- a product's or quotient's tree
  pub see_term : Term → ExprTree
  see_term (one_factor f) = see_factor f
  see_term (mul t scale f) = tree.op (scale_op scale) (see_term t) (see_factor f)

  -- a factor's tree
  pub see_factor : Factor → ExprTree
  see_factor (negated f) = tree.neg (see_factor f)
  see_factor (literal n) = tree.num (pos n)
  see_factor (variable p) = tree.path (all_of p)
  see_factor (round e) = see_expr e
  see_factor (call k place first more) = tree.call (pos k.0) (pos k.1) place (tree.more (see_expr first) (see_exprs more))
  see_factor (loop kind n first second each) = tree.loop kind n (see_expr first) (see_expr second) (see_expr each)

  -- the trees of further arguments
  pub see_exprs : Further → ExprTrees
  see_exprs no_more = tree.none
  see_exprs (and_then e more) = tree.more (see_expr e) (see_exprs more)
