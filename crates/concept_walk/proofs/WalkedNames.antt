-- The names of the variables of a walk differ.
use Rattle.std.proofs.Common.{◌≡◌, ◌≢◌, ◌<◌, ℕ, List, [], Ok, Some, map, length, get_or, sym, ap, ◌∙◌, AllPairs, arith}
use Rattle.std.specs.Prelude.{Contains, reverse}
use Rattle.std.proofs.lemmas.Option.{slice_get-get_or}
use Rattle.utopist_syntax.specs.FileTree.{ConceptTree}
use Rattle.concept_rules.specs.ConceptRules.{concepts_fault}
use Rattle.canonical_paths.specs.PathNames.{PathNames}
use Rattle.canonical_paths.specs.DeclaredPaths.{declared_paths}
use Rattle.canonical_paths.proofs.DistinctPaths.{declared_differ}
use Rattle.canonical_paths.proofs.Nonempty.{declared_are_some}
use Rattle.concept_walk.specs.Visits.{walk, visited_variables}
use Rattle.concept_walk.specs.Dotted.{dotted, NamesHaveNoDot}
use Rattle.concept_walk.proofs.Sublists.{sublist_member, sublist_differs, mapped_differ}
use Rattle.concept_walk.proofs.VisitedPaths.{walked_are_declared}
use Rattle.concept_walk.proofs.DotlessPaths.{IsDotless, declared_dotless, turned_have_no_dot}
use Rattle.concept_walk.proofs.DottedOnce.{dotted_once}

-- the declared paths of a concept differ, each two of them
paths_differ :
    (concepts : List ConceptTree) → concepts_fault [] concepts ≡ Ok tt → (name : List ℕ)
    → AllPairs (λ x y. x ≢ y) (declared_paths (reverse concepts) name)
paths_differ concepts kept name i j d lt within e =
    let ps = declared_paths (reverse concepts) name in
    let early : i < length ps = omega (arith, lt, within) in
    let same = declared_differ concepts kept name i j (get_or ps i d) (slice_get-get_or ps i d early)
    (slice_get-get_or ps j d within ∙ ap (λ (p : PathNames). Some p) (sym e)) in
    omega (arith, lt, same)

-- a declared path has a name
path_is_some :
    (concepts : List ConceptTree) (name : List ℕ) (p : PathNames)
    → Contains (declared_paths concepts name) p → p ≢ []
path_is_some concepts name p c e = declared_are_some concepts name c.0 p c.1 (c.2 ∙ e)

-- so do the variables of its walk
pub variables_differ :
    (concepts : List ConceptTree) → concepts_fault [] concepts ≡ Ok tt → (name : List ℕ)
    → AllPairs (λ x y. x ≢ y) (visited_variables (walk (reverse concepts) name))
variables_differ concepts kept name =
    sublist_differs (visited_variables (walk (reverse concepts) name)) (declared_paths (reverse concepts) name)
    (walked_are_declared (reverse concepts) name) (paths_differ concepts kept name)

-- and their names
pub names_differ :
    (concepts : List ConceptTree) → concepts_fault [] concepts ≡ Ok tt → NamesHaveNoDot concepts
    → (name : List ℕ)
    → AllPairs (λ x y. x ≢ y) (map dotted (visited_variables (walk (reverse concepts) name)))
names_differ concepts kept none name =
    mapped_differ dotted (visited_variables (walk (reverse concepts) name))
    (λ p q h k e. dotted_once p q (some p (there p h)) (some q (there q k)) (dotless p (there p h)) (dotless q (there q k)) e)
    (variables_differ concepts kept name)
  where
    there : (p : PathNames) → Contains (visited_variables (walk (reverse concepts) name)) p → Contains (declared_paths (reverse concepts) name) p
    there p h = sublist_member (visited_variables (walk (reverse concepts) name)) (declared_paths (reverse concepts) name) p (walked_are_declared (reverse concepts) name) h

    some : (p : PathNames) → Contains (declared_paths (reverse concepts) name) p → p ≢ []
    some = path_is_some (reverse concepts) name

    dotless : (p : PathNames) → Contains (declared_paths (reverse concepts) name) p → IsDotless p
    dotless = declared_dotless (reverse concepts) (turned_have_no_dot concepts none) name
