-- The canonical form of what is read has the tree that was read.
use Rattle.std.proofs.Common.{◌≡◌, ℕ, zero, suc, ◌<◌, Bool, false, ℤ, pos, negsuc, List, [], ◌∷◌, map, Option, Some, None, refl, ap, ◌∙◌, arith}
use Rattle.std.specs.Prelude.{◌==◌, if◌then◌else◌, unsigned_abs}
use Rattle.priz_frac.specs.Ratio.{Ratio}
use Rattle.priz_frac.specs.Lowest.{low}
use Rattle.priz_frac.specs.Sign.{signed_number, signed_ratio}
use Rattle.priz_frac.proofs.Lowest.{low_is_lowest}
use Rattle.priz_frac.proofs.Unique.{low-same_iff, low_is_same}
use Rattle.utopist_syntax.specs.ExprTree as tree
use Rattle.utopist_syntax.specs.ExprTree.{ExprTree}
use Rattle.utopist_syntax.specs.FileTree as trees
use Rattle.token_forms.specs.Lists.{OneOrMore, all_of}
use Rattle.utopist_parser.specs.Written.{Expression, choice, plain, Chain, one_term, add, Term, one_factor, mul, Factor, negated, literal, variable, round, call, loop, Further, no_more, and_then}
use Rattle.utopist_parser.specs.WrittenFile.{WrittenItem, var, eq, rel, WrittenConcept, WrittenNumber, WrittenGiven, WrittenCompute, WrittenFile}
use Rattle.utopist_parser.specs.ExprTree.{sign_op, scale_op, see_expr, see_chain, see_term, see_factor, see_exprs}
use Rattle.utopist_parser.specs.FileSeen.{all_if_any, see_option, see_path, see_part, see_item, see_concept, denominator, see_value, see_given, see_compute, see_file}
use Rattle.canonical_reading.proofs.CanonicalForm.{Forms, of_factor, of_term, of_chain, of_expr, canonical_expr, canonical_chain, canonical_term, canonical_factor, canonical_exprs, canonical_option, canonical_parts, canonical_body, canonical_item, canonical_concept, has_minus, written_below, written_ratio, canonical_value, canonical_given, canonical_compute, canonical_file}

-- ---- expressions

-- all four forms have this tree
record Means (w : Forms) (t : ExprTree) : Type 0 where
  pub expr : see_expr w.expr ≡ t
  pub chain : see_chain w.chain ≡ t
  pub term : see_term w.term ≡ t
  pub factor : see_factor w.factor ≡ t

-- what a factor is
factor_means : (f : Factor) (t : ExprTree) → see_factor f ≡ t → Means (of_factor f) t
factor_means f t e = record { expr = e; chain = e; term = e; factor = e }

-- what a term is
term_means : (x : Term) (t : ExprTree) → see_term x ≡ t → Means (of_term x) t
term_means x t e = record { expr = e; chain = e; term = e; factor = e }

-- what a chain is
chain_means : (c : Chain) (t : ExprTree) → see_chain c ≡ t → Means (of_chain c) t
chain_means c t e = record { expr = e; chain = e; term = e; factor = e }

-- what an expression is
expr_means : (x : Expression) (t : ExprTree) → see_expr x ≡ t → Means (of_expr x) t
expr_means x t e = record { expr = e; chain = e; term = e; factor = e }

mutual
  -- an expression's forms have its tree
  canonical_expr_seen : (e : Expression) → Means (canonical_expr e) (see_expr e)
  canonical_expr_seen (choice a c b met other) =
      let pa = (canonical_chain_seen a).chain in
      let pb = (canonical_chain_seen b).chain in
      let pm = (canonical_expr_seen met).expr in
      let po = (canonical_expr_seen other).expr in
      expr_means _ _ (λ i. tree.choice c (pa i) (pb i) (pm i) (po i))
  canonical_expr_seen (plain c) = canonical_chain_seen c

  -- so have a chain's
  canonical_chain_seen : (c : Chain) → Means (canonical_chain c) (see_chain c)
  canonical_chain_seen (one_term t) = canonical_term_seen t
  canonical_chain_seen (add c sign t) =
      let p = (canonical_chain_seen c).chain in
      let q = (canonical_term_seen t).term in
      chain_means _ _ (λ i. tree.op (sign_op sign) (p i) (q i))

  -- a term's
  canonical_term_seen : (t : Term) → Means (canonical_term t) (see_term t)
  canonical_term_seen (one_factor f) = canonical_factor_seen f
  canonical_term_seen (mul t scale f) =
      let p = (canonical_term_seen t).term in
      let q = (canonical_factor_seen f).factor in
      term_means _ _ (λ i. tree.op (scale_op scale) (p i) (q i))

  -- a factor's
  canonical_factor_seen : (f : Factor) → Means (canonical_factor f) (see_factor f)
  canonical_factor_seen (negated f) = factor_means _ _ (ap tree.neg (canonical_factor_seen f).factor)
  canonical_factor_seen (literal n) = factor_means _ _ refl
  canonical_factor_seen (variable p) = factor_means _ _ refl
  canonical_factor_seen (round e) = canonical_expr_seen e
  canonical_factor_seen (call k place first more) =
      let p = (canonical_expr_seen first).expr in
      let q = canonical_exprs_seen more in
      factor_means _ _ (λ i. tree.call (pos k.0) (pos k.1) place (tree.more (p i) (q i)))
  canonical_factor_seen (loop kind n first second each) =
      let p = (canonical_expr_seen first).expr in
      let q = (canonical_expr_seen second).expr in
      let r = (canonical_expr_seen each).expr in
      factor_means _ _ (λ i. tree.loop kind n (p i) (q i) (r i))

  -- and those of further arguments
  canonical_exprs_seen : (es : Further) → see_exprs (canonical_exprs es) ≡ see_exprs es
  canonical_exprs_seen no_more = refl
  canonical_exprs_seen (and_then e more) =
      let p = (canonical_expr_seen e).expr in
      let q = canonical_exprs_seen more in
      λ i. tree.more (p i) (q i)

-- ---- lists

module _ {X V : Type 0} (see : X → V) (canonical : X → X) (same : (x : X) → see (canonical x) ≡ see x) where
  -- each of a list is seen as it was
  map_seen : (xs : List X) → map see (map canonical xs) ≡ map see xs
  map_seen [] = refl
  map_seen (x ∷ xs) = let p = same x in let q = map_seen xs in λ i. p i ∷ q i

  -- so is a form that may be left out
  option_seen : (o : Option X) → see_option see (canonical_option canonical o) ≡ see_option see o
  option_seen None = refl
  option_seen (Some x) = let p = same x in λ i. Some (p i)

  -- and so are parts that may be left out
  parts_seen : (o : Option (OneOrMore X)) → map see (all_if_any (canonical_option (canonical_parts canonical) o)) ≡ map see (all_if_any o)
  parts_seen None = refl
  parts_seen (Some xs) = map_seen (all_of xs)

-- ---- numbers

-- a number past 1 is not 1
not_one : (d : ℕ) → (suc (suc d) == 1) ≡ false
not_one d = grind arith

-- a denominator that is positive is the one that is written
below_seen : (d : ℕ) → 0 < d → denominator (written_below d) ≡ d
below_seen zero h = absurd (omega arith)
below_seen (suc zero) h = refl
below_seen (suc (suc d)) h = ap (λ (b : Bool). denominator (if b then None else Some (suc d))) (not_one d)

-- the sign and the number make the numerator
num_seen : (z : ℤ) → signed_number (has_minus z) (pos (unsigned_abs z)) ≡ z
num_seen (pos n) = refl
num_seen (negsuc n) = refl

-- a fraction as it is written is that fraction
ratio_seen : (x : Ratio) → 0 < x.den → see_value (written_ratio x) ≡ low x
ratio_seen x h =
    let p = num_seen x.num in
    let q = below_seen x.den h in
    λ i. low (record { num = p i; den = q i })

-- lowest terms have no lower ones
low-low : (x : Ratio) → 0 < x.den → low (low x) ≡ low x
low-low x h = (low-same_iff (low x) x (low_is_lowest x h).positive h).0 (low_is_same x)

-- a denominator that is written is not 0
below_positive : (below : Option ℕ) → 0 < denominator below
below_positive None = omega arith
below_positive (Some d) = omega arith

-- what is seen has a positive denominator
pub value_positive : (x : WrittenNumber) → 0 < (see_value x).den
value_positive x = (low_is_lowest (signed_ratio x.negative x.above (denominator x.below)) (below_positive x.below)).positive

-- a number in lowest terms is the same number
canonical_value_seen : (x : WrittenNumber) → see_value (canonical_value x) ≡ see_value x
canonical_value_seen x =
    ratio_seen (see_value x) (value_positive x) ∙ low-low (signed_ratio x.negative x.above (denominator x.below)) (below_positive x.below)

-- ---- files

-- an item
canonical_item_seen : (i : WrittenItem) → see_item (canonical_item i) ≡ see_item i
canonical_item_seen (var ns kind) = refl
canonical_item_seen (eq left right) =
    let p = (canonical_chain_seen left).chain in
    let q = (canonical_chain_seen right).chain in
    λ i. trees.eq (p i) (q i)
canonical_item_seen (rel n parts output body) =
    let p = option_seen see_expr canonical_body (λ e. (canonical_expr_seen e).expr) body in
    λ i. trees.rel n (map see_part (all_if_any parts)) (see_path output) (p i)

-- a concept
canonical_concept_seen : (c : WrittenConcept) → see_concept (canonical_concept c) ≡ see_concept c
canonical_concept_seen c =
    let p = map_seen see_item canonical_item canonical_item_seen c.items in
    λ i. record { name = c.name; parents = all_if_any c.parents; items = p i }

-- what is given
canonical_given_seen : (g : WrittenGiven) → see_given (canonical_given g) ≡ see_given g
canonical_given_seen g =
    let p = option_seen see_value canonical_value canonical_value_seen g.value in
    λ i. record { path = see_path g.path; value = p i }

-- a compute statement
canonical_compute_seen : (c : WrittenCompute) → see_compute (canonical_compute c) ≡ see_compute c
canonical_compute_seen c =
    let p = parts_seen see_given canonical_given canonical_given_seen c.givens in
    λ i. record { name = c.name; givens = p i; wants = map see_path (all_of c.wants) }

-- a file's canonical form has its tree
pub canonical_file_seen : (w : WrittenFile) → see_file (canonical_file w) ≡ see_file w
canonical_file_seen w =
    let p = map_seen see_concept canonical_concept canonical_concept_seen w.concepts in
    let q = map_seen see_compute canonical_compute canonical_compute_seen w.computes in
    λ i. record { concepts = p i; computes = q i }
