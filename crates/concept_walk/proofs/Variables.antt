-- The variables of an item of a component's concept.
use Rattle.std.proofs.Common.{◌≡◌, ℕ, List, [], ◌∷◌, ◌++◌, refl, ap, ◌∙◌, append-nil}
use Rattle.std.specs.Prelude.{Contains, reverse}
use Rattle.utopist_syntax.specs.Named.{Named}
use Rattle.utopist_syntax.specs.declared.item.Bind.{Bind}
use Rattle.utopist_syntax.specs.declared.item.VarKind.{VarKind}
use Rattle.utopist_syntax.specs.FileTree.{ItemTree, var}
use Rattle.canonical_paths.specs.PathNames.{PathNames}
use Rattle.canonical_paths.proofs.TakingItems.{own_name}
use Rattle.canonical_paths.proofs.NextVariable.{its_variable}
use Rattle.canonical_paths.proofs.CheckedConcepts.{kept_are_scoped}
use Rattle.canonical_paths.proofs.CanonicalDeclared.{effective_scoped}
use Rattle.concept_walk.specs.declared.walk.Walk.{Walk}
use Rattle.concept_walk.specs.Walks.{IsWalk, concepts_of, concept_in, items_in}
use Rattle.concept_walk.specs.steps.Bringing.{AreVariablesOf, visits_at, visits_of}

module _ (w : Walk) (h : IsWalk w) (n : ℕ) (names : List Named) (kind : VarKind) (binds : List Bind) where
  pub are_variables : Contains (items_in w n) (var names kind binds) → AreVariablesOf w n kind names
  are_variables there m k = record {
    own = record { kind = kind; binds = binds };
    is =
        its_variable (items_in w n) (effective_scoped (reverse (concepts_of w)) (kept_are_scoped (concepts_of w) h.kept) (concept_in w n).name.text)
        (var names kind binds) (record { kind = kind; binds = binds }) m.text there (own_name names m k) refl;
    type = refl;
  }

  pub visits_at_variables : (at : PathNames) (i : ItemTree) → i ≡ var names kind binds → visits_at w at (i ∷ []) ≡ visits_of w at kind names
  visits_at_variables at i e = ap (λ (j : ItemTree). visits_at w at (j ∷ [])) e ∙ append-nil (visits_of w at kind names)
