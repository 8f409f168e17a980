-- The compute statement that is asked, and its problem.
use Rattle.std.proofs.Common.{◌≡◌, ℕ, ◌<◌, List, [], length, get_or, map, Some, Ok, Err, refl, ap, ◌∙◌, subst}
use Rattle.std.specs.Prelude.{slice_get}
use Rattle.std.specs.List.{flat_map}
use Rattle.std.proofs.lemmas.Option.{slice_get_read}
use Rattle.std.proofs.lemmas.List.Elements.{All-contains}
use Rattle.statement_set.proofs.Lists.{contains_at}
use Rattle.statement_set.specs.Problem.{Task, empty_task}
use Rattle.utopist_syntax.specs.declared.compute.Compute.{Compute}
use Rattle.utopist_syntax.specs.FileTree.{ItemTree, ConceptTree, FileTree}
use Rattle.utopist_syntax.specs.Shape.{HasComputeShape, HasShape}
use Rattle.body_lang.specs.Verdicts.{and_then}
use Rattle.concept_rules.specs.declared.fault.ModelFault.{ModelFault}
use Rattle.concept_rules.specs.declared.fault.UnfoldFault.{UnfoldFault}
use Rattle.concept_rules.specs.declared.fault.UnfoldFault.TheVariants as fault
use Rattle.concept_rules.specs.Checks.{Checks}
use Rattle.concept_unfold.specs.Paths.{given_names}
use Rattle.concept_unfold.specs.Declarations.{all_variables, items_of}
use Rattle.concept_unfold.specs.UnfoldingRules.{limits_fault, once_fault, unfolding_fault}
use Rattle.concept_unfold.specs.Unfolded.{var_number, given_of, statements_of, problem_from}

-- each of them asks for something
pub it_asks : (f : FileTree) (k : ℕ) (w : Compute) → slice_get f.computes k ≡ Some w → HasShape f → w.wants ≡ [] → ⊥
it_asks f k w there h = (All-contains HasComputeShape f.computes w h.computes (contains_at f.computes k w there)).wants.0

-- the compute statement that was read stands in the file
pub stands : (read all : List Compute) (i : ℕ) (w : Compute) → read ≡ all → i < length all → w ≡ get_or read i w → slice_get all i ≡ Some w
stands read all i w same lt is = slice_get_read all (length all) i w refl lt (subst (λ (xs : List Compute). w ≡ get_or xs i w) same is)

pub same_items : (cs read : List ConceptTree) (name text : List ℕ) (items : List ItemTree) → items ≡ items_of read text → read ≡ cs → text ≡ name → items ≡ items_of cs name
same_items cs read name text items e same is = e ∙ ap (λ (xs : List ConceptTree). items_of xs text) same ∙ ap (items_of cs) is

module _ (f : FileTree) (w : Compute) where
  -- a limit that is passed
  pub limits_fail : (e : ModelFault) → limits_fault w.name (items_of f.concepts w.name.text) ≡ Err e → unfolding_fault f w ≡ Err e
  limits_fail e h = ap (λ v. and_then v (once_fault [] (given_names w.givens))) h

  -- within the limits, a variable that is given twice
  pub once_fails : (e : UnfoldFault) → limits_fault w.name (items_of f.concepts w.name.text) ≡ Ok tt → Checks {X = Unit {0}} (once_fault [] (given_names w.givens)) (Err e) → Checks {X = Task} (unfolding_fault f w) (Err e)
  once_fails (fault.Model m) kept h = ap (λ v. and_then v (once_fault [] (given_names w.givens))) kept ∙ h
  once_fails fault.NoMem kept h = tt

-- the problem with its items, and then with its goal, is that of the items and the compute statement
pub problem_is : (w : Compute) (items : List ItemTree) (p q : Task) → p ≡ record empty_task { names = all_variables items; statements = flat_map (statements_of (all_variables items)) items } → q ≡ record p { givens = map (given_of p.names) w.givens; wants = map (var_number p.names) w.wants } → q ≡ problem_from items w
problem_is w items p q same e =
    e ∙ ap (λ (r : Task). record r { givens = map (given_of r.names) w.givens; wants = map (var_number r.names) w.wants }) same
