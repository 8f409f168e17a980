-- A set with one more path.
use Rattle.std.proofs.Common.{◌≡◌, ◌≢◌, ℕ, ◌<◌, ⊎_elim, true, false, List, [], ◌∷◌, ◌++◌, length, take, refl, sym, ap, ◌∙◌, subst, arith}
use Rattle.std.specs.Prelude.{All, Contains}
use Rattle.std.specs.List.{list_any}
use Rattle.std.proofs.lemmas.Bool.{or_left, or_right}
use Rattle.std.proofs.lemmas.List.{map_push}
use Rattle.std.proofs.lemmas.List.Elements.{All-head, All-tail, All-push, All-weaker}
use Rattle.std.proofs.lemmas.List.Folds.{list_any-append}
use Rattle.name_sets.specs.Paths.{is_prefix}
use Rattle.name_sets.specs.steps.Nodes.{path_to, IsNodeAt, GrowsAlong}
use Rattle.name_sets.specs.steps.PathEnds.{paths_of, ArePaths}
use Rattle.name_sets.proofs.Places.{kept_at}
use Rattle.name_sets.proofs.Growing.{grows_length}

-- nodes that come behind leave the paths that are there
pub paths_kept :
    (old new : List (List (List ℕ))) → take (length old) new ≡ old → (ends : List ℕ)
    → All (λ n. n < length old) ends → paths_of new ends ≡ paths_of old ends
paths_kept old new kept [] within = refl
paths_kept old new kept (n ∷ ends) within =
    ap (λ p. p ∷ paths_of new ends) (kept_at old new [] kept n (All-head (λ m. m < length old) n ends within))
    ∙ ap (λ ps. path_to old n ∷ ps) (paths_kept old new kept ends (All-tail (λ m. m < length old) n ends within))

module _
    (old new : List (List (List ℕ))) (ends : List ℕ) (s : ArePaths old ends) (path : List (List ℕ))
    (g : GrowsAlong old new path) (n : ℕ) (at : IsNodeAt new path n) where
  pub paths_more : paths_of new (ends ++ n ∷ []) ≡ paths_of old ends ++ path ∷ []
  paths_more =
      map_push (path_to new) ends n
      ∙ ap (λ ps. ps ++ path_to new n ∷ []) (paths_kept old new g.kept ends s.within)
      ∙ ap (λ p. paths_of old ends ++ p ∷ []) at.leads

  used_more :
      (p : List (List ℕ)) → Contains new p → p ≢ []
      → list_any (is_prefix p) (paths_of old ends ++ path ∷ []) ≡ true
  used_more p there some =
      list_any-append (is_prefix p) (paths_of old ends) (path ∷ []) ∙ ⊎_elim
      (λ before. or_left (list_any (is_prefix p) (paths_of old ends)) (list_any (is_prefix p) (path ∷ [])) (s.used p before some))
      (λ begins. or_right (list_any (is_prefix p) (paths_of old ends)) (list_any (is_prefix p) (path ∷ [])) (or_left (is_prefix p path) false begins))
      (g.along p there)

  pub are_paths_more : ArePaths new (ends ++ n ∷ [])
  are_paths_more = record {
    within =
        All-push (λ m. m < length new) ends n (All-weaker (λ m. m < length old) (λ m. m < length new) (λ m lt. omega (arith, lt, grows_length old new path g)) ends s.within) at.within;
    used = λ p there some. subst (λ ps. list_any (is_prefix p) ps ≡ true) (sym paths_more) (used_more p there some);
  }
