-- A path with dots, from its trail.
use Rattle.std.proofs.Common.{◌≡◌, ℕ, List, [], ◌∷◌, ◌++◌, refl, ap, ◌∙◌, append_assoc, append-nil}
use Rattle.canonical_paths.specs.PathNames.{PathNames}
use Rattle.concept_walk.specs.Dotted.{dotted}
use Rattle.concept_walk.specs.steps.Trails.{with_dots}

pub dots_behind : (p : PathNames) (n : List ℕ) → with_dots p ++ n ≡ dotted (p ++ n ∷ [])
dots_behind [] n = refl
dots_behind (m ∷ []) n =
    ap (λ (t : List ℕ). t ++ n) (append-nil (m ++ 46 ∷ [])) ∙ append_assoc m (46 ∷ []) n
dots_behind (m ∷ k ∷ r) n =
    append_assoc (m ++ 46 ∷ []) (with_dots (k ∷ r)) n
    ∙ append_assoc m (46 ∷ []) (with_dots (k ∷ r) ++ n)
    ∙ ap (λ (t : List ℕ). m ++ 46 ∷ t) (dots_behind (k ∷ r) n)
