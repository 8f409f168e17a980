-- The variables that a walk meets are some of the declared paths, in their order.
use Rattle.std.proofs.Common.{◌≡◌, ℕ, Bool, true, false, List, [], ◌∷◌, ◌++◌, inl, map, refl, sym, ap, ◌∙◌, subst, append_assoc}
use Rattle.std.specs.Prelude.{if◌then◌else◌}
use Rattle.std.specs.Cmp.Lexicographic.{pointwise}
use Rattle.std.specs.Str.{bytes_eq}
use Rattle.std.specs.List.{flat_map}
use Rattle.std.proofs.lemmas.Grind.{flat_map-append}
use Rattle.std.proofs.lemmas.List.{map-append, map-id}
use Rattle.utopist_syntax.specs.Named.{Named}
use Rattle.utopist_syntax.specs.declared.item.VarKind.{VarKind}
use Rattle.utopist_syntax.specs.declared.item.VarKind.TheVariants.{Numeric, Of}
use Rattle.utopist_syntax.specs.FileTree.{ItemTree, var, eq, rel, ConceptTree}
use Rattle.canonical_paths.specs.PathNames.{PathNames}
use Rattle.canonical_paths.specs.Canonical.{items_behind, canonical_path}
use Rattle.canonical_paths.specs.DeclaredPaths.{paths_in_kind, variable_paths, item_paths, declared_paths}
use Rattle.concept_walk.specs.Visits.{Visit, variable, variable_visits, item_visits, visits, walk, visited_variable, visited_variables}
use Rattle.concept_walk.proofs.Sublists.{IsSublist, sublist_behind, sublist_append}

-- the visits brought by each of some elements, and the paths of each
module _ {X : Type 0} (at : PathNames) (f : X → List Visit) (g : X → List PathNames)
    (each : (x : X) → IsSublist (visited_variables (f x)) (map (λ p. at ++ p) (g x))) where
  of_all :
      (xs : List X)
      → IsSublist (visited_variables (flat_map f xs)) (map (λ p. at ++ p) (flat_map g xs))
  of_all [] = tt
  of_all (x ∷ xs) =
      let met : visited_variables (f x ++ flat_map f xs) ≡ visited_variables (f x) ++ visited_variables (flat_map f xs) =
      flat_map-append visited_variable (f x) (flat_map f xs) in
      let paths : map (λ p. at ++ p) (g x ++ flat_map g xs) ≡ map (λ p. at ++ p) (g x) ++ map (λ p. at ++ p) (flat_map g xs) =
      map-append (λ (p : PathNames). at ++ p) (g x) (flat_map g xs) in
      subst (λ (us : List PathNames). IsSublist us (map (λ p. at ++ p) (g x ++ flat_map g xs))) (sym met)
      (subst (λ (vs : List PathNames). IsSublist (visited_variables (f x) ++ visited_variables (flat_map f xs)) vs) (sym paths)
      (sublist_append (visited_variables (f x)) (map (λ p. at ++ p) (g x)) (visited_variables (flat_map f xs)) (map (λ p. at ++ p) (flat_map g xs)) (each x) (of_all xs)))

-- paths inside of a variable, behind its own path
paths_inside :
    (at : PathNames) (name : List ℕ) (ps : List PathNames)
    → map (λ p. (at ++ name ∷ []) ++ p) ps ≡ map (λ p. at ++ p) (map (λ p. name ∷ p) ps)
paths_inside at name [] = refl
paths_inside at name (p ∷ ps) =
    ap (λ q. q ∷ map (λ p. (at ++ name ∷ []) ++ p) ps) (append_assoc at (name ∷ []) p)
    ∙ ap (λ qs. (at ++ name ∷ p) ∷ qs) (paths_inside at name ps)

-- what is met in components, and the paths inside of types, are given
module _ (canon : PathNames → Bool) (inside : List ℕ → PathNames → List Visit)
    (within : List ℕ → List PathNames)
    (known : (name : List ℕ) (at : PathNames) → IsSublist (visited_variables (inside name at)) (map (λ p. at ++ p) (within name))) where
  of_variable :
      (at : PathNames) (kind : VarKind) (n : Named)
      → IsSublist (visited_variables (variable_visits inside canon kind (at ++ n.text ∷ [])))
      (map (λ p. at ++ p) (variable_paths (paths_in_kind within kind) n.text))
  of_variable at Numeric n = by (canon (at ++ n.text ∷ []))
    where
      by :
          (t : Bool)
          → IsSublist (visited_variables (if t then variable (at ++ n.text ∷ []) ∷ [] else []))
          ((at ++ n.text ∷ []) ∷ [])
      by true = inl (refl, tt)
      by false = tt
  of_variable at (Of type) n =
      by (canon (at ++ n.text ∷ []))
      (subst (λ (vs : List PathNames). IsSublist (visited_variables (inside type.text (at ++ n.text ∷ []))) vs)
      (paths_inside at n.text (within type.text)) (known type.text (at ++ n.text ∷ [])))
    where
      by :
          (t : Bool)
          → IsSublist (visited_variables (inside type.text (at ++ n.text ∷ [])))
          (map (λ p. at ++ p) (map (λ p. n.text ∷ p) (within type.text)))
          → IsSublist (visited_variables (if t then inside type.text (at ++ n.text ∷ []) else []))
          ((at ++ n.text ∷ []) ∷ map (λ p. at ++ p) (map (λ p. n.text ∷ p) (within type.text)))
      by true h = sublist_behind (at ++ n.text ∷ []) (visited_variables (inside type.text (at ++ n.text ∷ []))) (map (λ p. at ++ p) (map (λ p. n.text ∷ p) (within type.text))) h
      by false h = tt

  of_item :
      (at : PathNames) (i : ItemTree)
      → IsSublist (visited_variables (item_visits inside canon at i)) (map (λ p. at ++ p) (item_paths within i))
  of_item at (var names kind binds) =
      of_all at (λ n. variable_visits inside canon kind (at ++ n.text ∷ []))
      (λ n. variable_paths (paths_in_kind within kind) n.text) (of_variable at kind) names
  of_item at (eq left right) = tt
  of_item at (rel name parts output body) = tt

-- in a component
of_component :
    (canon : PathNames → Bool) (concepts : List ConceptTree) (name : List ℕ) (at : PathNames)
    → IsSublist (visited_variables (visits concepts canon name at)) (map (λ p. at ++ p) (declared_paths concepts name))
of_component canon [] name at = tt
of_component canon (c ∷ earlier) name at =
    by (bytes_eq c.name.text name)
    (of_all at (item_visits (visits earlier canon) canon at) (item_paths (declared_paths earlier))
    (of_item canon (visits earlier canon) (declared_paths earlier) (of_component canon earlier) at) (items_behind earlier c))
    (of_component canon earlier name at)
  where
    by :
        (t : Bool)
        → IsSublist (visited_variables (flat_map (item_visits (visits earlier canon) canon at) (items_behind earlier c)))
        (map (λ p. at ++ p) (flat_map (item_paths (declared_paths earlier)) (items_behind earlier c)))
        → IsSublist (visited_variables (visits earlier canon name at)) (map (λ p. at ++ p) (declared_paths earlier name))
        → IsSublist
        (visited_variables (if t then flat_map (item_visits (visits earlier canon) canon at) (items_behind earlier c) else visits earlier canon name at))
        (map (λ p. at ++ p) (if t then flat_map (item_paths (declared_paths earlier)) (items_behind earlier c) else declared_paths earlier name))
    by true h k = h
    by false h k = k

-- in a whole_walk walk
pub walked_are_declared :
    (concepts : List ConceptTree) (name : List ℕ)
    → IsSublist (visited_variables (walk concepts name)) (declared_paths concepts name)
walked_are_declared concepts name =
    subst (λ (ps : List PathNames). IsSublist (visited_variables (walk concepts name)) ps) (map-id (declared_paths concepts name))
    (of_component (λ p. pointwise bytes_eq (canonical_path concepts name p) p) concepts name [])
