-- A tree that grows along a path.
use Rattle.std.proofs.Common.{◌≡◌, ℕ, ◌≤◌, ⊎_elim, inl, inr, true, List, [], ◌∷◌, ◌++◌, length, take, Result, Ok, Err, refl, sym, ap, subst, ◌∙◌, arith}
use Rattle.std.specs.Prelude.{OnOk, OnErr}
use Rattle.std.proofs.lemmas.List.{take_all, take_at, take-take, length-take}
use Rattle.std.proofs.lemmas.List.Elements.{Contains-push_cases}
use Rattle.name_sets.specs.Paths.{is_prefix}
use Rattle.name_sets.specs.steps.Nodes.{GrowsAlong}
use Rattle.name_sets.proofs.Prefixes.{prefix_trans, prefix_itself}

-- nothing comes
pub grows_none : (nodes : List (List (List ℕ))) (path : List (List ℕ)) → GrowsAlong nodes nodes path
grows_none nodes path = record { kept = take_all (length nodes) nodes (omega arith); along = λ p there. inl there }

-- the node of the path itself comes
pub grows_one :
    (nodes : List (List (List ℕ))) (path : List (List ℕ))
    → GrowsAlong nodes (nodes ++ path ∷ []) path
grows_one nodes path = record {
  kept = take_at nodes (path ∷ []) (length nodes) refl;
  along = λ p there. ⊎_elim (λ old. inl old) (λ same. inr (subst (λ q. is_prefix q path ≡ true) same (prefix_itself path))) (Contains-push_cases nodes path p there);
}

pub grows_by :
    {A E : Type 0} (old new : List (List (List ℕ))) (path : List (List ℕ)) (r : Result A E)
    → OnOk r (new ≡ old ++ path ∷ []) → OnErr r (new ≡ old) → GrowsAlong old new path
grows_by old new path (Ok a) ok err =
    subst (λ nodes. GrowsAlong old nodes path) (sym ok) (grows_one old path)
grows_by old new path (Err e) ok err =
    subst (λ nodes. GrowsAlong old nodes path) (sym err) (grows_none old path)

-- the old nodes are as many as before, or fewer
pub grows_length :
    (old new : List (List (List ℕ))) (path : List (List ℕ)) → GrowsAlong old new path
    → length old ≤ length new
grows_length old new path g = omega (arith, length-take (length old) new, ap length g.kept)

-- along a path, and then along a beginning of it
pub grows_on :
    (old mid new : List (List (List ℕ))) (p q : List (List ℕ)) → is_prefix q p ≡ true
    → GrowsAlong old mid p → GrowsAlong mid new q → GrowsAlong old new p
grows_on old mid new p q begins g h = record {
  kept =
      sym (take-take (length old) (length mid) new (grows_length old mid p g))
      ∙ ap (take (length old)) h.kept ∙ g.kept;
  along = λ r there. ⊎_elim (g.along r) (λ within. inr (prefix_trans r q p within begins)) (h.along r there);
}
