-- One more variable that is met.
use Rattle.std.proofs.Common.{◌≡◌, ◌≢◌, ◌<◌, ◌+◌, ℕ, suc, true, false, List, [], ◌∷◌, ◌++◌, map, length, take, Some, refl, sym, ap, ◌∙◌, subst, append-nil, arith}
use Rattle.std.specs.Prelude.{Contains, slice_get}
use Rattle.std.specs.List.{flat_map, AllPairs}
use Rattle.std.proofs.lemmas.Grind.{flat_map-append}
use Rattle.std.proofs.lemmas.List.{map-append, length-append}
use Rattle.std.proofs.Math.Seq.{take-append_seam, get_or-append_seam}
use Rattle.statement_set.specs.Problem.{Task, empty_task}
use Rattle.concept_rules.proofs.Among.{among}
use Rattle.concept_rules.proofs.Declaring.{once_front}
use Rattle.canonical_paths.specs.PathNames.{PathNames}
use Rattle.concept_walk.specs.Limits.{max_size}
use Rattle.concept_walk.specs.Dotted.{dotted}
use Rattle.concept_walk.specs.Visits.{Visit, variable, visited_variable, visited_variables}
use Rattle.concept_walk.specs.declared.walk.Walk.{Walk}
use Rattle.concept_walk.specs.declared.found.Met.{Met}
use Rattle.concept_walk.specs.declared.found.Walked.{Walked}
use Rattle.concept_walk.proofs.WalkedNames.{names_differ}
use Rattle.concept_walk.specs.Walks.{concepts_of, concept_in, visited_item, IsWalk, AreAllMet, AreFound, whole_walk, paths_in}
use Rattle.concept_walk.specs.steps.Bringing.{AreNext, Bring}

-- a member of the front doesn't stand behind it, where all members differ
not_before : (xs : List (List ℕ)) (y : List ℕ) (ys : List (List ℕ)) → AllPairs (λ a b. a ≢ b) (xs ++ y ∷ ys) → ¬ Contains xs y
not_before xs y ys differ there =
    let long = length-append xs (y ∷ ys) in
    let none = once_front (xs ++ y ∷ ys) (length xs) y differ (omega (arith, long)) (get_or-append_seam xs y ys y) in
    apart (sym (among y (take (length xs) (xs ++ y ∷ ys)) (subst (λ zs. Contains zs y) (sym (take-append_seam xs (y ∷ ys))) there)) ∙ none)
  where
    apart : true ≡ false → ⊥
    apart e = cc

variables_more : (before : List Visit) (p : PathNames) → visited_variables (before ++ variable p ∷ []) ≡ visited_variables before ++ p ∷ []
variables_more before p = flat_map-append visited_variable before (variable p ∷ [])

module _ (w : Walk) (p : PathNames) where
  -- its name is new
  pub is_fresh : IsWalk w → (f : Walked) → AreNext w (variable p ∷ []) f → ¬ Contains f.problem.names (dotted p)
  is_fresh h f n =
      let vs = visited_variables n.before in
      let all : visited_variables (whole_walk w) ≡ vs ++ p ∷ visited_variables n.rest =
      ap visited_variables n.are ∙ flat_map-append visited_variable n.before (variable p ∷ n.rest) in
      let named : map dotted (visited_variables (whole_walk w)) ≡ map dotted vs ++ dotted p ∷ map dotted (visited_variables n.rest) =
      ap (map dotted) all ∙ map-append dotted vs (p ∷ visited_variables n.rest) in
      subst (λ (ns : List (List ℕ)). ¬ Contains ns (dotted p)) (sym (ap (λ (t : Task). t.names) n.found.problem))
      (not_before (map dotted vs) (dotted p) (map dotted (visited_variables n.rest)) (subst (AllPairs (λ a b. a ≢ b)) named (names_differ (concepts_of w) h.kept h.undotted (concept_in w w.asked).name.text)))

  -- and then it is found
  pub adds :
      (number : ℕ) → slice_get (paths_in w w.asked) number ≡ Some p
      → (old new : Walked)
      → new.problem ≡ record old.problem { names = old.problem.names ++ dotted p ∷ [] }
      → new.variables ≡ old.variables ++ number ∷ [] → new.items ≡ old.items
      → Bring w (variable p ∷ []) old new
  adds number at old new problem variables items before rest are h = record {
    problem =
        problem ∙ ap (λ (t : Task). record t { names = t.names ++ dotted p ∷ [] }) h.problem
        ∙ ap (λ ns. record empty_task { names = ns })
        (sym (map-append dotted (visited_variables before) (p ∷ [])) ∙ ap (map dotted) (sym (variables_more before p)));
    variables =
        ap (map (slice_get (paths_in w w.asked))) variables
        ∙ map-append (slice_get (paths_in w w.asked)) old.variables (number ∷ [])
        ∙ ap (λ os. os ++ slice_get (paths_in w w.asked) number ∷ []) h.variables
        ∙ ap (λ o. map Some (visited_variables before) ++ o ∷ []) at
        ∙ sym (map-append Some (visited_variables before) (p ∷ []))
        ∙ ap (map Some) (sym (variables_more before p));
    items =
        subst (AreAllMet w (take (suc max_size) (flat_map visited_item (before ++ variable p ∷ [])))) (sym items)
        (subst (λ (us : List Visit). AreAllMet w (take (suc max_size) us) old.items)
        (sym (flat_map-append visited_item before (variable p ∷ []) ∙ append-nil (flat_map visited_item before))) h.items);
  }
