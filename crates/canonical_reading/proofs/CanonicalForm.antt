-- What is read, written as its canonical text writes it: with parentheses only where they are needed, and numbers in lowest terms.
use Rattle.std.specs.Prelude.{ℕ, pred, ℤ, pos, negsuc, Bool, true, false, ◌==◌, if◌then◌else◌, unsigned_abs, map, Option, Some, None}
use Rattle.priz_frac.specs.Ratio.{Ratio}
use Rattle.token_forms.specs.Lists.{OneOrMore}
use Rattle.utopist_parser.specs.Written.{Expression, choice, plain, Chain, one_term, add, Term, one_factor, mul, Factor, negated, literal, variable, round, call, loop, Further, no_more, and_then}
use Rattle.utopist_parser.specs.WrittenFile.{WrittenItem, var, eq, rel, WrittenConcept, WrittenNumber, WrittenGiven, WrittenCompute, WrittenFile}
use Rattle.utopist_parser.specs.FileSeen.{see_value}

-- one tree written in each place where it may stand
pub record Forms : Type 0 where
  pub expr : Expression
  pub chain : Chain
  pub term : Term
  pub factor : Factor

-- a factor needs no parentheses
abbrev pub of_factor : Factor → Forms
of_factor f = record { expr = plain (one_term (one_factor f)); chain = one_term (one_factor f); term = one_factor f; factor = f }

-- a product needs them as a factor
abbrev pub of_term : Term → Forms
of_term t = record { expr = plain (one_term t); chain = one_term t; term = t; factor = round (plain (one_term t)) }

-- a sum needs them as a term and as a factor
abbrev pub of_chain : Chain → Forms
of_chain c = record { expr = plain c; chain = c; term = one_factor (round (plain c)); factor = round (plain c) }

-- a choice needs them wherever it is no expression of its own
abbrev pub of_expr : Expression → Forms
of_expr e = record { expr = e; chain = one_term (one_factor (round e)); term = one_factor (round e); factor = round e }

abbrev mutual
  -- an expression
  pub canonical_expr : Expression → Forms
  canonical_expr (choice a c b met other) =
      of_expr (choice (canonical_chain a).chain c (canonical_chain b).chain (canonical_expr met).expr (canonical_expr other).expr)
  canonical_expr (plain c) = canonical_chain c

  -- terms that are added and subtracted
  pub canonical_chain : Chain → Forms
  canonical_chain (one_term t) = canonical_term t
  canonical_chain (add c sign t) = of_chain (add (canonical_chain c).chain sign (canonical_term t).term)

  -- factors that are multiplied and divided
  pub canonical_term : Term → Forms
  canonical_term (one_factor f) = canonical_factor f
  canonical_term (mul t scale f) = of_term (mul (canonical_term t).term scale (canonical_factor f).factor)

  -- a factor: the parentheses that were written vanish
  pub canonical_factor : Factor → Forms
  canonical_factor (negated f) = of_factor (negated (canonical_factor f).factor)
  canonical_factor (literal n) = of_factor (literal n)
  canonical_factor (variable p) = of_factor (variable p)
  canonical_factor (round e) = canonical_expr e
  canonical_factor (call k place first more) = of_factor (call k place (canonical_expr first).expr (canonical_exprs more))
  canonical_factor (loop kind n first second each) =
      of_factor (loop kind n (canonical_expr first).expr (canonical_expr second).expr (canonical_expr each).expr)

  -- further arguments
  pub canonical_exprs : Further → Further
  canonical_exprs no_more = no_more
  canonical_exprs (and_then e more) = and_then (canonical_expr e).expr (canonical_exprs more)

-- a form that may be left out
abbrev pub canonical_option : {X : Type 0} → (X → X) → Option X → Option X
canonical_option canonical None = None
canonical_option canonical (Some x) = Some (canonical x)

-- each of one or more parts
abbrev pub canonical_parts : {X : Type 0} → (X → X) → OneOrMore X → OneOrMore X
canonical_parts canonical xs = record { first = canonical xs.first; more = map canonical xs.more }

-- a body: an expression
abbrev pub canonical_body : Expression → Expression
canonical_body e = (canonical_expr e).expr

-- a side of an equation: a chain
abbrev pub canonical_side : Chain → Chain
canonical_side c = (canonical_chain c).chain

-- an item
abbrev pub canonical_item : WrittenItem → WrittenItem
canonical_item (var ns kind) = var ns kind
canonical_item (eq left right) = eq (canonical_side left) (canonical_side right)
canonical_item (rel n parts output body) = rel n parts output (canonical_option canonical_body body)

-- a concept
abbrev pub canonical_concept : WrittenConcept → WrittenConcept
canonical_concept c = record { name = c.name; parents = c.parents; items = map canonical_item c.items }

-- whether a minus is written
abbrev pub has_minus : ℤ → Bool
has_minus (pos n) = false
has_minus (negsuc n) = true

-- a denominator that is 1 is left out
abbrev pub written_below : ℕ → Option ℕ
written_below d = if d == 1 then None else Some (pred d)

-- a fraction with these parts
abbrev pub written_ratio : Ratio → WrittenNumber
written_ratio x = record { negative = has_minus x.num; above = unsigned_abs x.num; below = written_below x.den }

-- a number, in lowest terms
abbrev pub canonical_value : WrittenNumber → WrittenNumber
canonical_value x = written_ratio (see_value x)

-- what is given
abbrev pub canonical_given : WrittenGiven → WrittenGiven
canonical_given g = record { path = g.path; value = canonical_option canonical_value g.value }

-- a compute statement
abbrev pub canonical_compute : WrittenCompute → WrittenCompute
canonical_compute c = record { name = c.name; givens = canonical_option (canonical_parts canonical_given) c.givens; wants = c.wants }

-- a file
abbrev pub canonical_file : WrittenFile → WrittenFile
canonical_file f = record { concepts = map canonical_concept f.concepts; computes = map canonical_compute f.computes }
