-- What a text reads as has the shape of what was read.
use Rattle.std.proofs.Common.{ℕ, List, [], ◌∷◌, map, Option, Some, None, subst, arith}
use Rattle.std.specs.Prelude.{◌≢◌, All}
use Rattle.std.proofs.lemmas.Int.{ints}
use Rattle.std.proofs.lemmas.List.Elements.{All-nil, All-cons}
use Rattle.utopist_syntax.specs.ExprTree as tree
use Rattle.utopist_syntax.specs.ExprTree.{ExprTree, ExprTrees}
use Rattle.utopist_syntax.specs.FileTree.{FileTree}
use Rattle.utopist_syntax.specs.Shape.{HasName, AreSomePaths, HasExprShape, HaveExprShape, HasBodyShape, HasBindShape, HasPartShape, HasItemShape, HasConceptShape, HasComputeShape, HasShape}
use Rattle.token_forms.specs.Lists.{OneOrMore}
use Rattle.utopist_parser.specs.Written.{WrittenPath, Expression, choice, plain, Chain, one_term, add, Term, one_factor, mul, Factor, negated, literal, variable, round, call, loop, Further, no_more, and_then}
use Rattle.utopist_parser.specs.WrittenFile.{WrittenKind, numeric, component, WrittenPart, input, subtask, WrittenItem, var, eq, rel, WrittenConcept, WrittenCompute}
use Rattle.token_forms.specs.Lists.{all_of}
use Rattle.utopist_parser.specs.ExprTree.{see_expr, see_chain, see_term, see_factor, see_exprs}
use Rattle.utopist_parser.specs.FileSeen.{all_if_any, see_option, see_path, see_bind, see_binds, see_part, see_item, see_concept, see_given, see_compute}
use Rattle.utopist_parser.specs.Forms.{ReadsAs}

-- ---- lists

some_first : {X : Type 0} (x : X) (xs : List X) → x ∷ xs ≢ []
some_first x xs e = cc

some_argument : (a : ExprTree) (rest : ExprTrees) → tree.more a rest ≢ tree.none
some_argument a rest e = cc

-- what each is seen as has the shape
all_seen : {X V : Type 0} (P : V → Type 0) (see : X → V) → ((x : X) → P (see x)) → (xs : List X) → All P (map see xs)
all_seen P see each [] = All-nil P
all_seen P see each (x ∷ xs) = All-cons P (see x) (map see xs) (each x) (all_seen P see each xs)

path_named : (p : WrittenPath) → HasName (see_path p)
path_named p = some_first p.first p.more

some_paths : (ps : OneOrMore WrittenPath) → AreSomePaths (map see_path (all_of ps))
some_paths ps = (some_first (see_path ps.first) (map see_path ps.more), all_seen HasName see_path path_named (all_of ps))

-- ---- expressions

mutual
  expr_shaped : (e : Expression) → HasExprShape (see_expr e)
  expr_shaped (choice a c b met other) = (chain_shaped a, chain_shaped b, expr_shaped met, expr_shaped other)
  expr_shaped (plain c) = chain_shaped c

  chain_shaped : (c : Chain) → HasExprShape (see_chain c)
  chain_shaped (one_term t) = term_shaped t
  chain_shaped (add c sign t) = (chain_shaped c, term_shaped t)

  term_shaped : (t : Term) → HasExprShape (see_term t)
  term_shaped (one_factor f) = factor_shaped f
  term_shaped (mul t scale f) = (term_shaped t, factor_shaped f)

  factor_shaped : (f : Factor) → HasExprShape (see_factor f)
  factor_shaped (negated f) = factor_shaped f
  factor_shaped (literal n) = omega (arith, ints)
  factor_shaped (variable p) = some_first p.first p.more
  factor_shaped (round e) = expr_shaped e
  factor_shaped (call k place first more) = (omega (arith, ints), omega (arith, ints), some_argument (see_expr first) (see_exprs more), (expr_shaped first, exprs_shaped more))
  factor_shaped (loop kind n first second each) = (expr_shaped first, expr_shaped second, expr_shaped each)

  exprs_shaped : (es : Further) → HaveExprShape (see_exprs es)
  exprs_shaped no_more = tt
  exprs_shaped (and_then e more) = (expr_shaped e, exprs_shaped more)

-- ---- items

body_shaped : (o : Option Expression) → HasBodyShape (see_option see_expr o)
body_shaped None = tt
body_shaped (Some e) = expr_shaped e

binds_shaped : (k : WrittenKind) → All HasBindShape (see_binds k)
binds_shaped numeric = All-nil HasBindShape
binds_shaped (component n binds) = all_seen HasBindShape see_bind (λ b. (path_named b.left, path_named b.right)) (all_if_any binds)

part_shaped : (p : WrittenPart) → HasPartShape (see_part p)
part_shaped (input p) = path_named p
part_shaped (subtask inputs outputs) = (some_paths inputs, some_paths outputs)

item_shaped : (i : WrittenItem) → HasItemShape (see_item i)
item_shaped (var ns kind) = (some_first ns.first ns.more, binds_shaped kind)
item_shaped (eq left right) = (chain_shaped left, chain_shaped right)
item_shaped (rel n parts output body) = (all_seen HasPartShape see_part part_shaped (all_if_any parts), path_named output, body_shaped body)

-- ---- files

concept_shaped : (c : WrittenConcept) → HasConceptShape (see_concept c)
concept_shaped c = all_seen HasItemShape see_item item_shaped c.items

compute_shaped : (c : WrittenCompute) → HasComputeShape (see_compute c)
compute_shaped c = record {
  givens = all_seen (λ g. HasName g.path) see_given (λ g. path_named g.path) (all_if_any c.givens);
  wants = some_paths c.wants;
}

-- what was read has its shape
pub has_shape : (text : List ℕ) (f : FileTree) → ReadsAs text f → HasShape f
has_shape text f r =
    subst HasShape r.tree (record {
      concepts = all_seen HasConceptShape see_concept concept_shaped r.written.concepts;
      computes = all_seen HasComputeShape see_compute compute_shaped r.written.computes;
    })
