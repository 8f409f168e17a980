-- Expressions: what stops each, and how deep each is nested at least.
use Rattle.std.proofs.Common.{◌≡◌, ◌≤◌, false, Option, None, arith}
use Rattle.utopist_lexer.specs.declared.mark.Mark.TheVariants as marks
use Rattle.utopist_parser.specs.declared.breadth.Breadth.{Breadth}
use Rattle.utopist_parser.specs.declared.breadth.Breadth.TheVariants as breadth
use Rattle.token_forms.specs.Symbols.{Symbol}
use Rattle.token_forms.specs.steps.Steps.{meets}
use Rattle.token_forms.specs.steps.Single.{is_mark}
use Rattle.utopist_parser.specs.Written.{Expression, choice, plain, Chain, one_term, add, Term, one_factor, mul, Factor, negated, literal, variable, round, call, loop}
use Rattle.utopist_parser.specs.ExprTree.{see_expr, see_chain, see_term, see_factor}
use Rattle.utopist_parser.specs.Nesting.{nest_expr, nest_chain, nest_term, nest_factor}
use Rattle.utopist_parser.specs.Arithmetic.{IsArithExpr, IsArith, IsArithTerm, IsArithFactor}
use Rattle.utopist_parser.specs.steps.ReadingExpr.{Nested, sign_of, scale_of}
use Rattle.utopist_parser.proofs.PathRules.{path_form, path_stops}

-- ---- trees with their nesting

abbrev pub seen_factor : Factor → Nested
seen_factor f = (see_factor f, nest_factor f)

abbrev pub seen_term : Term → Nested
seen_term t = (see_term t, nest_term t)

abbrev pub seen_chain : Chain → Nested
seen_chain c = (see_chain c, nest_chain c)

abbrev pub seen_expr : Expression → Nested
seen_expr e = (see_expr e, nest_expr e)

-- each is nested at least one deep
pub factor_nest : (f : Factor) → 1 ≤ nest_factor f
factor_nest (negated f) = omega arith
factor_nest (literal n) = omega arith
factor_nest (variable p) = omega arith
factor_nest (round e) = omega arith
factor_nest (call k place first rest) = omega arith
factor_nest (loop kind n first second each) = omega arith

pub term_nest : (t : Term) → 1 ≤ nest_term t
term_nest (one_factor f) = factor_nest f
term_nest (mul t s f) = omega arith

pub chain_nest : (c : Chain) → 1 ≤ nest_chain c
chain_nest (one_term t) = term_nest t
chain_nest (add c s t) = omega arith

pub expr_nest : (e : Expression) → 1 ≤ nest_expr e
expr_nest (choice a c b met other) = omega arith
expr_nest (plain c) = chain_nest c

-- ---- what is allowed

-- a condition that is asked of arithmetic alone
abbrev pub InBreadth : Breadth → Type 0 → Type 0
InBreadth breadth.All T = Unit {0}
InBreadth breadth.Arithmetic T = T

abbrev pub AllowedFactor : Breadth → Factor → Type 0
AllowedFactor b f = InBreadth b (IsArithFactor f)

abbrev pub AllowedTerm : Breadth → Term → Type 0
AllowedTerm b t = InBreadth b (IsArithTerm t)

abbrev pub AllowedChain : Breadth → Chain → Type 0
AllowedChain b c = InBreadth b (IsArith c)

abbrev pub AllowedExpr : Breadth → Expression → Type 0
AllowedExpr b e = InBreadth b (IsArithExpr e)

-- ---- what stops them

abbrev pub FactorStops : Factor → Option Symbol → Type 0
FactorStops (negated f) o = FactorStops f o
FactorStops (literal n) o = Unit {0}
FactorStops (variable p) o = path_form.Stops p o
FactorStops (round e) o = Unit {0}
FactorStops (call k place first rest) o = Unit {0}
FactorStops (loop kind n first second each) o = Unit {0}

abbrev pub LastFactor : Term → Option Symbol → Type 0
LastFactor (one_factor f) o = FactorStops f o
LastFactor (mul t s f) o = FactorStops f o

abbrev pub TermStops : Term → Option Symbol → Type 0
TermStops t o = LastFactor t o × (scale_of o ≡ None)

abbrev pub LastTerm : Chain → Option Symbol → Type 0
LastTerm (one_term t) o = TermStops t o
LastTerm (add c s t) o = TermStops t o

abbrev pub ChainStops : Chain → Option Symbol → Type 0
ChainStops c o = LastTerm c o × (sign_of o ≡ None)

abbrev pub ExprStops : Expression → Option Symbol → Type 0
ExprStops (choice a c b met other) o = ExprStops other o
ExprStops (plain c) o = ChainStops c o

-- what begins with no dot stops a factor
pub factor_stops : (f : Factor) (o : Option Symbol) → meets (is_mark marks.Dot) o ≡ false → FactorStops f o
factor_stops (negated f) o e = factor_stops f o e
factor_stops (literal n) o e = tt
factor_stops (variable p) o e = path_stops p o e
factor_stops (round x) o e = tt
factor_stops (call k place first rest) o e = tt
factor_stops (loop kind n first second each) o e = tt

pub last_factor_stops : (t : Term) (o : Option Symbol) → meets (is_mark marks.Dot) o ≡ false → LastFactor t o
last_factor_stops (one_factor f) o e = factor_stops f o e
last_factor_stops (mul t s f) o e = factor_stops f o e

pub last_term_stops : (c : Chain) (o : Option Symbol) → meets (is_mark marks.Dot) o ≡ false → scale_of o ≡ None → LastTerm c o
last_term_stops (one_term t) o e s = (last_factor_stops t o e, s)
last_term_stops (add c x t) o e s = (last_factor_stops t o e, s)

-- no dot and no operator
abbrev pub IsCloser : Option Symbol → Type 0
IsCloser o = (meets (is_mark marks.Dot) o ≡ false) × (scale_of o ≡ None) × (sign_of o ≡ None)

pub closes_chain : (c : Chain) (o : Option Symbol) → IsCloser o → ChainStops c o
closes_chain c o h = (last_term_stops c o h.0 h.1, h.2)

pub closes_expr : (e : Expression) (o : Option Symbol) → IsCloser o → ExprStops e o
closes_expr (choice a c b met other) o h = closes_expr other o h
closes_expr (plain c) o h = closes_chain c o h
