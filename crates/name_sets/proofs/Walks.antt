-- Walks along a path, name by name.
use Rattle.std.proofs.Common.{◌≡◌, ℕ, ◌+◌, ◌<◌, true, List, [], ◌∷◌, ◌++◌, length, take, drop, get_or, sym, ap, subst, ◌∙◌}
use Rattle.std.specs.Prelude.{Contains}
use Rattle.std.proofs.lemmas.List.{take-map, map_more, take-append-drop}
use Rattle.utopist_syntax.specs.Named.{Named}
use Rattle.name_sets.specs.Paths.{texts, is_prefix}
use Rattle.name_sets.specs.steps.Nodes.{IsNodeAt, IsTree, GrowsAlong}
use Rattle.name_sets.proofs.Prefixes.{prefix_take}
use Rattle.name_sets.proofs.Growing.{grows_on}

-- one more name of a path
pub walk_more :
    (path : List Named) (i : ℕ) (name : Named) (text : List ℕ) → i < length path
    → name ≡ get_or path i name → text ≡ name.text
    → take (i + 1) (texts path) ≡ take i (texts path) ++ text ∷ []
walk_more path i name text lt is same =
    let read : Named → List ℕ = λ n. n.text in
    let ends : read (get_or path i name) ≡ text = ap read (sym is) ∙ sym same in
    take-map read (i + 1) path ∙ map_more read path i name lt
    ∙ ap (λ p. p ++ read (get_or path i name) ∷ []) (sym (take-map read i path))
    ∙ ap (λ t. take i (texts path) ++ t ∷ []) ends

-- the next node
pub node_more :
    (nodes : List (List (List ℕ))) (path : List Named) (i : ℕ) (name : Named) (text : List ℕ)
    (from : List (List ℕ)) (n : ℕ) → i < length path → name ≡ get_or path i name → text ≡ name.text
    → from ≡ take i (texts path) → IsNodeAt nodes (from ++ text ∷ []) n
    → IsNodeAt nodes (take (i + 1) (texts path)) n
node_more nodes path i name text from n lt is same walked at =
    subst (λ p. IsNodeAt nodes p n) (ap (λ p. p ++ text ∷ []) walked ∙ sym (walk_more path i name text lt is same)) at

-- a path to a node passes nodes
pub passes :
    (nodes : List (List (List ℕ))) (path : List (List ℕ)) (k : ℕ) → IsTree nodes
    → Contains nodes path → Contains nodes (take k path)
passes nodes path k t there =
    t.closed (take k path) (drop k path) (subst (Contains nodes) (sym (take-append-drop k path)) there)

-- the nodes that came so far, with those of one more step
pub grows_more :
    (old mid new : List (List (List ℕ))) (path : List Named) (i : ℕ) (name : Named) (text : List ℕ)
    (from : List (List ℕ)) → i < length path → name ≡ get_or path i name → text ≡ name.text
    → from ≡ take i (texts path) → GrowsAlong old mid (texts path)
    → GrowsAlong mid new (from ++ text ∷ []) → GrowsAlong old new (texts path)
grows_more old mid new path i name text from lt is same walked g h =
    let on : from ++ text ∷ [] ≡ take (i + 1) (texts path) = ap (λ p. p ++ text ∷ []) walked ∙ sym (walk_more path i name text lt is same) in
    grows_on old mid new (texts path) (from ++ text ∷ []) (subst (λ p. is_prefix p (texts path) ≡ true) (sym on) (prefix_take (i + 1) (texts path))) g h

-- where a name leads nowhere, no path begins with what was walked and that name
pub walk_ends :
    (nodes : List (List (List ℕ))) (path : List Named) (i : ℕ) (name : Named) (text : List ℕ)
    (from : List (List ℕ)) → i < length path → name ≡ get_or path i name → text ≡ name.text
    → from ≡ take i (texts path) → (Contains nodes (from ++ text ∷ []) → ⊥)
    → Contains nodes (take (i + 1) (texts path)) → ⊥
walk_ends nodes path i name text from lt is same walked missing there =
    missing (subst (Contains nodes) (walk_more path i name text lt is same ∙ ap (λ p. p ++ text ∷ []) (sym walked)) there)
