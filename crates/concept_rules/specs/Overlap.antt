-- Bindings that overlap: what is bound, lies inside of it or around it, can't be bound again.
use Rattle.std.specs.Prelude.{ℕ, List, [], ◌∷◌, Bool, false, ◌||◌, map}
use Rattle.std.specs.List.{list_any}
use Rattle.std.specs.Option.{option_map_or}
use Rattle.name_sets.specs.Paths.{texts, clash}
use Rattle.utopist_syntax.specs.Named.{Named}
use Rattle.utopist_syntax.specs.declared.item.VarKind.{VarKind}
use Rattle.utopist_syntax.specs.declared.item.Bind.{Bind}
use Rattle.utopist_syntax.specs.FileTree.{ConceptTree}
use Rattle.concept_rules.specs.Kinds.{variable_in}

-- the left paths of bindings
abbrev pub left_paths : List Bind → List (List (List ℕ))
left_paths binds = map (λ b. texts b.left.parts) binds

-- a path clashes with one of these
abbrev pub clashes : List (List (List ℕ)) → List (List ℕ) → Bool
clashes bound path = list_any (clash path) bound

-- inside this type, the declaration of a segment has a binding that clashes with what is behind it
abbrev pub is_bound_inside : List ConceptTree → VarKind → List Named → Bool
is_bound_inside concepts kind [] = false
is_bound_inside concepts kind (s ∷ rest) =
    option_map_or
    (λ v. clashes (left_paths v.binds) (texts rest) || is_bound_inside concepts v.kind rest)
    (variable_in concepts kind s.text) false

-- the left path of a binding of variables of this type overlaps, where these of the item are bound
abbrev pub is_overlapping :
    List ConceptTree → VarKind → List (List (List ℕ)) → List Named → Bool
is_overlapping concepts kind bound left =
    clashes bound (texts left) || is_bound_inside concepts kind left
