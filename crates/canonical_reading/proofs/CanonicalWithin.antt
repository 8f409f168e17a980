-- The canonical form of what is read is nested no deeper, and arithmetic where that was arithmetic.
use Rattle.std.proofs.Common.{◌≤◌, ℕ, suc, Option, Some, None, arith}
use Rattle.std.proofs.lemmas.List.Elements.{All-map, All-weaker}
use Rattle.utopist_parser.specs.Written.{Expression, choice, plain, Chain, one_term, add, Term, one_factor, mul, Factor, negated, literal, variable, round, call, loop, Further, no_more, and_then}
use Rattle.utopist_parser.specs.WrittenFile.{WrittenItem, var, eq, rel, WrittenConcept, WrittenFile}
use Rattle.utopist_parser.specs.Nesting.{nest_expr, nest_chain, nest_term, nest_factor, nest_exprs}
use Rattle.utopist_parser.specs.Arithmetic.{IsArithExpr, IsArith, IsArithTerm, IsArithFactor}
use Rattle.utopist_parser.specs.FileNesting.{IsSide, IsBody, IsItem, IsConcept, IsFile}
use Rattle.canonical_reading.proofs.CanonicalForm.{Forms, of_factor, of_term, of_chain, of_expr, canonical_expr, canonical_chain, canonical_term, canonical_factor, canonical_exprs, canonical_option, canonical_body, canonical_side, canonical_item, canonical_concept, canonical_file}

-- ---- nesting

-- the forms are nested at most as deep as this
record Within (w : Forms) (as_expr as_chain as_term as_factor : ℕ) : Type 0 where
  pub expr : nest_expr w.expr ≤ as_expr
  pub chain : nest_chain w.chain ≤ as_chain
  pub term : nest_term w.term ≤ as_term
  pub factor : nest_factor w.factor ≤ as_factor

-- what a factor is
factor_within : (x : Factor) (n : ℕ) → nest_factor x ≤ n → Within (of_factor x) n n n n
factor_within x n h = record { expr = h; chain = h; term = h; factor = h }

-- what a term is
term_within : (x : Term) (n : ℕ) → nest_term x ≤ n → Within (of_term x) n n n (suc n)
term_within x n h = record { expr = h; chain = h; term = h; factor = omega arith }

-- what a chain is
chain_within : (x : Chain) (n : ℕ) → nest_chain x ≤ n → Within (of_chain x) n n (suc n) (suc n)
chain_within x n h = record { expr = h; chain = h; term = omega arith; factor = omega arith }

-- what an expression is
expr_within : (x : Expression) (n : ℕ) → nest_expr x ≤ n → Within (of_expr x) n (suc n) (suc n) (suc n)
expr_within x n h = record { expr = h; chain = omega arith; term = omega arith; factor = omega arith }

-- a chain that is an expression
chain_is_expr : (w : Forms) (n : ℕ) → Within w n n (suc n) (suc n) → Within w n (suc n) (suc n) (suc n)
chain_is_expr w n h = record { expr = h.expr; chain = omega (arith, h.chain); term = h.term; factor = h.factor }

-- a term that is a chain
term_is_chain : (w : Forms) (n : ℕ) → Within w n n n (suc n) → Within w n n (suc n) (suc n)
term_is_chain w n h = record { expr = h.expr; chain = h.chain; term = omega (arith, h.term); factor = h.factor }

-- a factor that is a term
factor_is_term : (w : Forms) (n : ℕ) → Within w n n n n → Within w n n n (suc n)
factor_is_term w n h = record { expr = h.expr; chain = h.chain; term = h.term; factor = omega (arith, h.factor) }

-- an expression in parentheses, which is nested one deeper
expr_is_factor : (w : Forms) (n : ℕ) → Within w n (suc n) (suc n) (suc n) → Within w (suc n) (suc n) (suc n) (suc n)
expr_is_factor w n h = record { expr = omega (arith, h.expr); chain = h.chain; term = h.term; factor = h.factor }

mutual
  -- an expression stands on its own as deep as before, and elsewhere at most one deeper
  canonical_expr_within : (e : Expression) → Within (canonical_expr e) (nest_expr e) (suc (nest_expr e)) (suc (nest_expr e)) (suc (nest_expr e))
  canonical_expr_within (choice a c b met other) =
      let ha = (canonical_chain_within a).chain in
      let hb = (canonical_chain_within b).chain in
      let hm = (canonical_expr_within met).expr in
      let ho = (canonical_expr_within other).expr in
      expr_within _ _ (omega (arith, ha, hb, hm, ho))
  canonical_expr_within (plain c) = chain_is_expr (canonical_chain c) (nest_chain c) (canonical_chain_within c)

  -- a chain is as deep as before but as a term or a factor
  canonical_chain_within : (c : Chain) → Within (canonical_chain c) (nest_chain c) (nest_chain c) (suc (nest_chain c)) (suc (nest_chain c))
  canonical_chain_within (one_term t) = term_is_chain (canonical_term t) (nest_term t) (canonical_term_within t)
  canonical_chain_within (add c sign t) =
      let h = (canonical_chain_within c).chain in
      let k = (canonical_term_within t).term in
      chain_within _ _ (omega (arith, h, k))

  -- a term but as a factor
  canonical_term_within : (t : Term) → Within (canonical_term t) (nest_term t) (nest_term t) (nest_term t) (suc (nest_term t))
  canonical_term_within (one_factor f) = factor_is_term (canonical_factor f) (nest_factor f) (canonical_factor_within f)
  canonical_term_within (mul t scale f) =
      let h = (canonical_term_within t).term in
      let k = (canonical_factor_within f).factor in
      term_within _ _ (omega (arith, h, k))

  -- a factor everywhere
  canonical_factor_within : (f : Factor) → Within (canonical_factor f) (nest_factor f) (nest_factor f) (nest_factor f) (nest_factor f)
  canonical_factor_within (negated f) = let h = (canonical_factor_within f).factor in factor_within _ _ (omega (arith, h))
  canonical_factor_within (literal n) = factor_within _ _ (omega arith)
  canonical_factor_within (variable p) = factor_within _ _ (omega arith)
  canonical_factor_within (round e) = expr_is_factor (canonical_expr e) (nest_expr e) (canonical_expr_within e)
  canonical_factor_within (call k place first more) =
      let h = (canonical_expr_within first).expr in
      let l = canonical_exprs_within more in
      factor_within _ _ (omega (arith, h, l))
  canonical_factor_within (loop kind n first second each) =
      let h = (canonical_expr_within first).expr in
      let k = (canonical_expr_within second).expr in
      let l = (canonical_expr_within each).expr in
      factor_within _ _ (omega (arith, h, k, l))

  -- and further arguments are as deep as before
  canonical_exprs_within : (es : Further) → nest_exprs (canonical_exprs es) ≤ nest_exprs es
  canonical_exprs_within no_more = omega arith
  canonical_exprs_within (and_then e more) =
      let h = (canonical_expr_within e).expr in
      let k = canonical_exprs_within more in
      omega (arith, h, k)

-- ---- arithmetic

-- all four forms are arithmetic
record Arithmetical (w : Forms) : Type 0 where
  pub expr : IsArithExpr w.expr
  pub chain : IsArith w.chain
  pub term : IsArithTerm w.term
  pub factor : IsArithFactor w.factor

mutual
  -- an expression that is arithmetic
  canonical_expr_arith : (e : Expression) → IsArithExpr e → Arithmetical (canonical_expr e)
  canonical_expr_arith (choice a c b met other) h = absurd h
  canonical_expr_arith (plain c) h = canonical_chain_arith c h

  -- a chain
  canonical_chain_arith : (c : Chain) → IsArith c → Arithmetical (canonical_chain c)
  canonical_chain_arith (one_term t) h = canonical_term_arith t h
  canonical_chain_arith (add c sign t) h =
      let k : IsArith (canonical_chain c).chain × IsArithTerm (canonical_term t).term = ((canonical_chain_arith c h.0).chain, (canonical_term_arith t h.1).term) in
      record { expr = k; chain = k; term = k; factor = k }

  -- a term
  canonical_term_arith : (t : Term) → IsArithTerm t → Arithmetical (canonical_term t)
  canonical_term_arith (one_factor f) h = canonical_factor_arith f h
  canonical_term_arith (mul t scale f) h =
      let k : IsArithTerm (canonical_term t).term × IsArithFactor (canonical_factor f).factor = ((canonical_term_arith t h.0).term, (canonical_factor_arith f h.1).factor) in
      record { expr = k; chain = k; term = k; factor = k }

  -- a factor
  canonical_factor_arith : (f : Factor) → IsArithFactor f → Arithmetical (canonical_factor f)
  canonical_factor_arith (negated f) h =
      let k = (canonical_factor_arith f h).factor in
      record { expr = k; chain = k; term = k; factor = k }
  canonical_factor_arith (literal n) h = record { expr = tt; chain = tt; term = tt; factor = tt }
  canonical_factor_arith (variable p) h = record { expr = tt; chain = tt; term = tt; factor = tt }
  canonical_factor_arith (round e) h = canonical_expr_arith e h
  canonical_factor_arith (call k place first more) h = absurd h
  canonical_factor_arith (loop kind n first second each) h = absurd h

-- ---- files

-- a side of an equation
canonical_side_within : (limit : ℕ) (c : Chain) → IsSide limit c → IsSide limit (canonical_side c)
canonical_side_within limit c h =
    let k = (canonical_chain_within c).chain in
    let l = h.0 in
    (omega (arith, k, l), (canonical_chain_arith c h.1).chain)

-- a body
canonical_body_within : (limit : ℕ) (body : Option Expression) → IsBody limit body → IsBody limit (canonical_option canonical_body body)
canonical_body_within limit None h = tt
canonical_body_within limit (Some e) h = let k = (canonical_expr_within e).expr in omega (arith, h, k)

-- an item
canonical_item_within : (limit : ℕ) (i : WrittenItem) → IsItem limit i → IsItem limit (canonical_item i)
canonical_item_within limit (var ns kind) h = tt
canonical_item_within limit (eq left right) h = (canonical_side_within limit left h.0, canonical_side_within limit right h.1)
canonical_item_within limit (rel n parts output body) h = canonical_body_within limit body h

-- a concept
canonical_concept_within : (limit : ℕ) (c : WrittenConcept) → IsConcept limit c → IsConcept limit (canonical_concept c)
canonical_concept_within limit c h =
    All-map (IsItem limit) canonical_item c.items
    (All-weaker (IsItem limit) (λ i. IsItem limit (canonical_item i)) (canonical_item_within limit) c.items h)

-- a file's canonical form is within the limit that the file is within
pub canonical_file_within : (limit : ℕ) (w : WrittenFile) → IsFile limit w → IsFile limit (canonical_file w)
canonical_file_within limit w h =
    All-map (IsConcept limit) canonical_concept w.concepts
    (All-weaker (IsConcept limit) (λ c. IsConcept limit (canonical_concept c)) (canonical_concept_within limit) w.concepts h)
