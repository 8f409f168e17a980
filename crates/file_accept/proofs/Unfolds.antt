-- The compute statements of a file, unfolded one after another.
use Rattle.std.proofs.Common.{◌≡◌, ℕ, zero, suc, ◌+◌, ◌<◌, ◌≤◌, List, [], ◌∷◌, ◌++◌, Some, Result, Ok, Err, length, get_or, take, drop, map, refl, sym, ap, ◌∙◌, subst, arith}
use Rattle.std.specs.Prelude.{slice_get}
use Rattle.std.proofs.lemmas.List.{length-map}
use Rattle.std.proofs.lemmas.Option.{get_or_from_slice_get}
use Rattle.priz_base.proofs.More.{drop_at, map_more}
use Rattle.body_lang.specs.Verdicts.{Verdict, and_then}
use Rattle.body_lang.proofs.Verdicts.{first_passes}
use Rattle.utopist_syntax.specs.declared.compute.Compute.{Compute}
use Rattle.utopist_syntax.specs.FileTree.{FileTree}
use Rattle.statement_set.specs.Problem.{Task}
use Rattle.concept_rules.specs.declared.fault.ModelFault.{ModelFault}
use Rattle.concept_rules.specs.declared.fault.UnfoldFault.{UnfoldFault}
use Rattle.concept_rules.specs.declared.fault.UnfoldFault.TheVariants as fault
use Rattle.concept_rules.specs.Checks.{Checks}
use Rattle.concept_rules.specs.Limits.{max_computes}
use Rattle.concept_rules.specs.ConceptRules.{file_fault}
use Rattle.concept_unfold.specs.Built.{IsBuilt}
use Rattle.concept_unfold.specs.UnfoldingRules.{unfolding_fault, unfoldings_fault, model_fault}
use Rattle.concept_unfold.specs.Unfolded.{problem_of}
use Rattle.concept_unfold.specs.Answers.{UnfoldOf}
use Rattle.concept_unfold.proofs.PlainFiles.{file_follows}
use Rattle.file_accept.specs.Problems.{problems_of}

-- ---- how many there are

-- a file that breaks no rule of concepts has few compute statements
pub few_computes : (f : FileTree) → IsBuilt f → file_fault max_computes f ≡ Ok tt → length f.computes ≤ max_computes
few_computes f built h = (file_follows max_computes f built h).few

-- and one that breaks no rule has few problems
pub few_problems : (f : FileTree) → IsBuilt f → model_fault f ≡ Ok tt → length (problems_of f) ≤ max_computes
few_problems f built h =
    subst (λ n. n ≤ max_computes) (sym (length-map f.computes (problem_of f))) (few_computes f built (first_passes _ _ h))

-- ---- one more

-- there is one at each number below their count
some_at : {X : Type 0} (xs : List X) (i : ℕ) → i < length xs → (x : X) × (slice_get xs i ≡ Some x)
some_at [] i lt = absurd (omega arith)
some_at (x ∷ xs) zero lt = (x, refl)
some_at (x ∷ xs) (suc i) lt = some_at xs i (omega arith)

module _ (f : FileTree) (i : ℕ) (lt : i < length f.computes) where
  abbrev next : Compute
  next = (some_at f.computes i lt).0

  there : slice_get f.computes i ≡ Some next
  there = (some_at f.computes i lt).1

  read : next ≡ get_or f.computes i next
  read = sym (get_or_from_slice_get f.computes i next next there)

  abbrev rest : Verdict ModelFault
  rest = unfoldings_fault f (drop (i + 1) f.computes)

  -- the next one comes first of those that are left
  one_left : unfoldings_fault f (drop i f.computes) ≡ and_then (unfolding_fault f next) rest
  one_left = ap (unfoldings_fault f) (drop_at f.computes i next lt read)

  -- one more is unfolded, and breaks no rule
  pub unfolded_more : (p : Task) → ((c : Compute) → slice_get f.computes i ≡ Some c → UnfoldOf f c (Ok p))
      → (unfoldings_fault f (drop i f.computes) ≡ rest) × (map (problem_of f) (take (i + 1) f.computes) ≡ map (problem_of f) (take i f.computes) ++ p ∷ [])
  unfolded_more p unfolded =
      let own = unfolded next there in (
        one_left ∙ ap (λ v. and_then v rest) own.0,
        map_more (problem_of f) f.computes i next lt read ∙ ap (λ q. map (problem_of f) (take i f.computes) ++ q ∷ []) (sym own.1),
      )

  -- one is not, for this cause
  pub unfolding_fails : (e : UnfoldFault) → ((c : Compute) → slice_get f.computes i ≡ Some c → UnfoldOf f c (Err e))
      → unfoldings_fault f f.computes ≡ unfoldings_fault f (drop i f.computes) → Checks {X = List Task} (unfoldings_fault f f.computes) (Err e)
  unfolding_fails (fault.Model m) fails left = left ∙ one_left ∙ ap (λ v. and_then v rest) (fails next there)
  unfolding_fails fault.NoMem fails left = tt

-- ---- behind the rules of concepts

-- a rule of concepts that is broken is the first of all
pub concepts_fail : (f : FileTree) (e : UnfoldFault) → Checks {X = Unit {0}} (file_fault max_computes f) (Err e) → Checks {X = List Task} (model_fault f) (Err e)
concepts_fail f (fault.Model m) h = ap (λ v. and_then v (unfoldings_fault f f.computes)) h
concepts_fail f fault.NoMem h = tt

-- where none is those of unfolding decide
pub unfolding_decides : (f : FileTree) (r : Result (List Task) UnfoldFault) → file_fault max_computes f ≡ Ok tt → Checks (unfoldings_fault f f.computes) r → Checks (model_fault f) r
unfolding_decides f (Ok ps) kept h = ap (λ v. and_then v (unfoldings_fault f f.computes)) kept ∙ h
unfolding_decides f (Err (fault.Model m)) kept h = ap (λ v. and_then v (unfoldings_fault f f.computes)) kept ∙ h
unfolding_decides f (Err fault.NoMem) kept h = tt
