-- One more equation or relation that is met.
use Rattle.std.proofs.Common.{◌≡◌, ◌⊎◌, ◌≤◌, ◌<◌, ◌+◌, ℕ, zero, suc, List, [], ◌∷◌, ◌++◌, map, length, take, Some, refl, sym, ap, ◌∙◌, subst, append-nil, arith}
use Rattle.std.specs.List.{flat_map}
use Rattle.std.proofs.lemmas.Grind.{flat_map-append}
use Rattle.std.proofs.lemmas.List.{take_all, length-append, length-take, take-append-le}
use Rattle.std.proofs.lemmas.Option.{same_Some}
use Rattle.statement_set.specs.Problem.{empty_task}
use Rattle.utopist_syntax.specs.FileTree.{ItemTree, var, eq, rel}
use Rattle.canonical_paths.specs.PathNames.{PathNames}
use Rattle.concept_walk.specs.Limits.{max_size}
use Rattle.concept_walk.specs.Dotted.{dotted}
use Rattle.concept_walk.specs.Visits.{Visit, variable, equation, relation, item_visit, visited_variable, visited_variables}
use Rattle.concept_walk.specs.declared.walk.Walk.{Walk}
use Rattle.concept_walk.specs.declared.found.Met.{Met}
use Rattle.concept_walk.specs.declared.found.Walked.{Walked}
use Rattle.concept_walk.specs.Walks.{visited_item, IsMet, AreAllMet, AreFound}
use Rattle.concept_walk.specs.steps.Bringing.{Bring}

-- an equation or a relation is what is met at its visit
pub is_item : (at : PathNames) (i : ItemTree) (v : Visit) → item_visit at i ≡ Some v → visited_item v ≡ v ∷ []
is_item at (var names kind binds) v e = absurd (cc)
is_item at (eq left right) v e = subst (λ (u : Visit). visited_item u ≡ u ∷ []) (same_Some _ _ e) refl
is_item at (rel name parts output body) v e = subst (λ (u : Visit). visited_item u ≡ u ∷ []) (same_Some _ _ e) refl

no_variable : (v : Visit) → visited_item v ≡ v ∷ [] → visited_variable v ≡ []
no_variable (variable path) e = absurd (cc)
no_variable (equation at left right) e = refl
no_variable (relation at parts output body) e = refl

same_variables :
    (before : List Visit) (v : Visit) → visited_item v ≡ v ∷ []
    → visited_variables before ≡ visited_variables (before ++ v ∷ [])
same_variables before v e =
    sym (append-nil (visited_variables before))
    ∙ ap (λ vs. visited_variables before ++ (vs ++ [])) (sym (no_variable v e))
    ∙ sym (flat_map-append visited_variable before (v ∷ []))

one_item :
    (before : List Visit) (v : Visit) → visited_item v ≡ v ∷ []
    → flat_map visited_item (before ++ v ∷ []) ≡ flat_map visited_item before ++ v ∷ []
one_item before v e =
    flat_map-append visited_item before (v ∷ [])
    ∙ ap (λ (vs : List Visit). flat_map visited_item before ++ (vs ++ [])) e

module _ (w : Walk) where
  met_count : (vs : List Visit) (ms : List Met) → AreAllMet w vs ms → length vs ≡ length ms
  met_count [] [] h = refl
  met_count [] (m ∷ ms) h = absurd h
  met_count (v ∷ vs) [] h = absurd h
  met_count (v ∷ vs) (m ∷ ms) h = ap suc (met_count vs ms h.1)

  met_push :
      (vs : List Visit) (ms : List Met) (v : Visit) (m : Met) → AreAllMet w vs ms → IsMet w v m
      → AreAllMet w (vs ++ v ∷ []) (ms ++ m ∷ [])
  met_push [] [] v m h one = (one, tt)
  met_push [] (n ∷ ms) v m h one = absurd h
  met_push (u ∷ vs) [] v m h one = absurd h
  met_push (u ∷ vs) (n ∷ ms) v m h one = (h.0, met_push vs ms v m h.1 one)

  module _ (most : ℕ) (vs : List Visit) (ms : List Met) (v : Visit) (h : AreAllMet w (take (suc most) vs) ms) where
    count : length (take (suc most) vs) ≡ length ms
    count = met_count (take (suc most) vs) ms h

    kept_one : (m : Met) → IsMet w v m → length ms ≤ most → AreAllMet w (take (suc most) (vs ++ v ∷ [])) (ms ++ m ∷ [])
    kept_one m one few =
        let size = length-take (suc most) vs in
        let long = length-append vs (v ∷ []) in
        let c = count in
        let short : length vs ≤ most = omega (arith, size, c, few) in
        subst (λ (us : List Visit). AreAllMet w us (ms ++ m ∷ [])) (sym (take_all (suc most) (vs ++ v ∷ []) (omega (arith, short, long))))
        (met_push vs ms v m (subst (λ (us : List Visit). AreAllMet w us ms) (take_all (suc most) vs (omega (arith, short))) h) one)

    left_one : most < length ms → AreAllMet w (take (suc most) (vs ++ v ∷ [])) ms
    left_one many =
        let size = length-take (suc most) vs in
        let c = count in
        subst (λ (us : List Visit). AreAllMet w us ms) (sym (take-append-le (suc most) vs (v ∷ []) (omega (arith, size, c, many)))) h

  -- it is found, or there are too many already
  pub meets :
      (old : Walked) (items : List Met) (v : Visit) (m : Met) → IsMet w v m
      → visited_item v ≡ v ∷ [] → length old.items ≤ max_size → items ≡ old.items ++ m ∷ []
      → Bring w (v ∷ []) old (record old { items = items })
  meets old items v m one e few is before rest are h = record {
    problem = h.problem ∙ ap (λ ps. record empty_task { names = map dotted ps }) (same_variables before v e);
    variables = h.variables ∙ ap (map Some) (same_variables before v e);
    items =
        subst (λ (us : List Visit). AreAllMet w (take (suc max_size) us) items) (sym (one_item before v e))
        (subst (AreAllMet w (take (suc max_size) (flat_map visited_item before ++ v ∷ []))) (sym is)
        (kept_one max_size (flat_map visited_item before) old.items v h.items m one few));
  }

  pub passes :
      (old : Walked) (v : Visit) → visited_item v ≡ v ∷ [] → max_size < length old.items
      → Bring w (v ∷ []) old old
  passes old v e many before rest are h = record {
    problem = h.problem ∙ ap (λ ps. record empty_task { names = map dotted ps }) (same_variables before v e);
    variables = h.variables ∙ ap (map Some) (same_variables before v e);
    items =
        subst (λ (us : List Visit). AreAllMet w (take (suc max_size) us) old.items) (sym (one_item before v e))
        (left_one max_size (flat_map visited_item before) old.items v h.items many);
  }
