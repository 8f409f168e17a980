-- An expression of good symbols can be printed.
use Rattle.std.proofs.Common.{List, [], ◌∷◌, ◌++◌, map}
use Rattle.std.specs.Prelude.{ℤ, pos}
use Rattle.std.specs.List.{AllByRecursion, flat_map}
use Rattle.priz_base.specs.declared.place.Place.{Place}
use Rattle.utopist_lexer.specs.declared.mark.Mark.{Mark}
use Rattle.utopist_lexer.specs.declared.mark.Mark.TheVariants as marks
use Rattle.utopist_lexer.specs.declared.token.Kind.{Kind}
use Rattle.utopist_lexer.specs.declared.token.Kind.TheVariants as kinds
use Rattle.utopist_lexer.specs.declared.word.Word.TheVariants as words
use Rattle.utopist_syntax.specs.Named.{Named}
use Rattle.token_forms.specs.Symbols.{Symbol, name, sub, fixed, number}
use Rattle.utopist_parser.specs.Written as written
use Rattle.utopist_parser.specs.Written.{WrittenPath, Expression, choice, plain, Chain, one_term, add, Term, one_factor, mul, Factor, negated, literal, variable, round, call, loop, Further, no_more, and_then}
use Rattle.token_forms.specs.Lists.{OneOrMore, behind, separated, all_of}
use Rattle.utopist_parser.specs.ExprSymbols.{spell_name, spell_path, sign_mark, scale_mark, cmp_mark, loop_word, spell_expr, spell_chain, spell_term, spell_factor, spell_exprs}
use Rattle.utopist_parser.specs.ExprTree.{see_expr, see_chain, see_term, see_factor, see_exprs}
use Rattle.canonical_reading.proofs.PrintableParts.{SomeAndAll, PrintableName, PrintableNames, PrintableNumber, PrintableTree, PrintableTrees}
use Rattle.canonical_reading.proofs.GoodSymbols.{AllGood, good_parts}

-- this holds where these symbols are good
pub record GoodGives (ts : List Symbol) (P : Type 0) : Type 0 where
  pub shows : AllGood ts → P

-- nothing
pub nothing : GoodGives [] (Unit {0})
nothing = record { shows = λ g. tt }

-- one form behind another
pub both : {xs ys : List Symbol} {P Q : Type 0} → GoodGives xs P → GoodGives ys Q → GoodGives (xs ++ ys) (P × Q)
both {xs} {ys} r s = record { shows = λ g. let p = good_parts xs ys g in (r.shows p.0, s.shows p.1) }

-- a token of which the kind alone counts, before a form
pub fixed_then : {ys : List Symbol} {Q : Type 0} (k : Kind) → GoodGives ys Q → GoodGives (fixed k ∷ ys) Q
fixed_then k s = record { shows = λ g. s.shows g.1 }

-- a name before a form
pub name_then : {ys : List Symbol} {Q : Type 0} (n : Named) → GoodGives ys Q → GoodGives (name n ∷ ys) (PrintableName n × Q)
name_then n s = record { shows = λ g. (g.0, s.shows g.1) }

-- a number before a form
pub number_then : {ys : List Symbol} {Q : Type 0} (i : ℤ) → GoodGives ys Q → GoodGives (number i ∷ ys) (PrintableNumber i × Q)
number_then i s = record { shows = λ g. (g.0, s.shows g.1) }

-- the number of a subtask before a form
sub_then : {ys : List Symbol} {Q : Type 0} (i j : ℤ) (p : Place) → GoodGives ys Q → GoodGives (sub i j p ∷ ys) ((PrintableNumber i × PrintableNumber j) × Q)
sub_then i j p s = record { shows = λ g. (g.0, s.shows g.1) }

-- what follows from it
pub form : {xs : List Symbol} {P Q : Type 0} → (P → Q) → GoodGives xs P → GoodGives xs Q
form c r = record { shows = λ g. c (r.shows g) }

-- forms that stand one behind another
pub many : {X : Type 0} (spell : X → List Symbol) (P : X → Type 0) → ((x : X) → GoodGives (spell x) (P x)) → (xs : List X) → GoodGives (flat_map spell xs) (AllByRecursion P xs)
many spell P h [] = form (λ _. tt) nothing
many spell P h (x ∷ xs) = form (λ p. p) (both (h x) (many spell P h xs))

-- part {SEPARATOR part}
pub parted : {X : Type 0} (m : Mark) (spell : X → List Symbol) (P : X → Type 0) → ((x : X) → GoodGives (spell x) (P x))
    → (xs : OneOrMore X) → GoodGives (separated m spell xs) (SomeAndAll P (all_of xs))
parted m spell P h xs = form (λ p. p) (both (h xs.first) (many (behind m spell) P (λ x. fixed_then (kinds.Mark m) (h x)) xs.more))

-- what holds of what is seen of each
pub all_seen : {X V : Type 0} (see : X → V) (P : V → Type 0) (xs : List X) → AllByRecursion (λ x. P (see x)) xs → AllByRecursion P (map see xs)
all_seen see P [] h = tt
all_seen see P (x ∷ xs) h = (h.0, all_seen see P xs h.1)

-- ---- names and paths

-- a good name can be printed
pub name_readable : (n : Named) → GoodGives (spell_name n) (PrintableName n)
name_readable n = form (λ p. p.0) (name_then n nothing)

-- so can a path of good names
pub path_readable : (p : WrittenPath) → GoodGives (spell_path p) (PrintableNames (all_of p))
path_readable p = parted marks.Dot spell_name PrintableName name_readable p

-- ---- expressions

mutual
  -- so can an expression of good symbols
  pub expr_readable : (e : Expression) → GoodGives (spell_expr e) (PrintableTree (see_expr e))
  expr_readable (choice a c b met other) =
      form (λ p. (p.0, p.1.0, p.1.1.0, p.1.1.1))
      (fixed_then (kinds.Word words.If) (both (chain_readable a) (fixed_then (kinds.Mark (cmp_mark c)) (both (chain_readable b) (fixed_then (kinds.Word words.Then) (both (expr_readable met) (fixed_then (kinds.Word words.Else) (expr_readable other))))))))
  expr_readable (plain c) = form (λ p. p) (chain_readable c)

  -- so can a chain
  pub chain_readable : (c : Chain) → GoodGives (spell_chain c) (PrintableTree (see_chain c))
  chain_readable (one_term t) = form (λ p. p) (term_readable t)
  chain_readable (add c sign t) = form (λ p. p) (both (chain_readable c) (fixed_then (kinds.Mark (sign_mark sign)) (term_readable t)))

  -- so can a term
  term_readable : (t : Term) → GoodGives (spell_term t) (PrintableTree (see_term t))
  term_readable (one_factor f) = form (λ p. p) (factor_readable f)
  term_readable (mul t scale f) = form (λ p. p) (both (term_readable t) (fixed_then (kinds.Mark (scale_mark scale)) (factor_readable f)))

  -- so can a factor
  factor_readable : (f : Factor) → GoodGives (spell_factor f) (PrintableTree (see_factor f))
  factor_readable (negated f) = form (λ p. p) (fixed_then (kinds.Mark marks.Minus) (factor_readable f))
  factor_readable (literal n) = form (λ p. p.0) (number_then (pos n) nothing)
  factor_readable (variable p) = form (λ p. p) (path_readable p)
  factor_readable (round e) = form (λ p. p.0) (fixed_then (kinds.Mark marks.OpenRound) (both (expr_readable e) (fixed_then (kinds.Mark marks.CloseRound) nothing)))
  factor_readable (call k place first more) =
      form (λ p. (p.0.0, p.0.1, (p.1.0, p.1.1.0)))
      (sub_then (pos k.0) (pos k.1) place (fixed_then (kinds.Mark marks.OpenRound) (both (expr_readable first) (both (exprs_readable more) (fixed_then (kinds.Mark marks.CloseRound) nothing)))))
  factor_readable (loop kind n first second each) =
      form (λ p. (p.0, p.1.0, p.1.1.0, p.1.1.1.0))
      (fixed_then (kinds.Word (loop_word kind)) (fixed_then (kinds.Mark marks.OpenRound) (name_then n (fixed_then (kinds.Mark marks.Comma) (both (expr_readable first) (fixed_then (kinds.Mark marks.Comma) (both (expr_readable second) (fixed_then (kinds.Mark marks.Comma) (both (expr_readable each) (fixed_then (kinds.Mark marks.CloseRound) nothing))))))))))

  -- so can further arguments
  exprs_readable : (es : Further) → GoodGives (spell_exprs es) (PrintableTrees (see_exprs es))
  exprs_readable no_more = form (λ _. tt) nothing
  exprs_readable (and_then e more) = form (λ p. p) (fixed_then (kinds.Mark marks.Comma) (both (expr_readable e) (exprs_readable more)))
