-- Canonical paths: where a variable of a component is bound, its path stands for another path of the
-- same concept.
use Rattle.std.specs.Prelude.{ℕ, if◌then◌else◌, List, [], ◌∷◌, ◌++◌, Option, Some, None, length, drop, reverse, fold}
use Rattle.std.specs.Str.{bytes_eq}
use Rattle.std.specs.Option.{option_map_or}
use Rattle.utopist_syntax.specs.declared.item.VarKind.{VarKind}
use Rattle.utopist_syntax.specs.declared.item.VarKind.TheVariants.{Numeric, Of}
use Rattle.utopist_syntax.specs.declared.item.Bind.{Bind}
use Rattle.utopist_syntax.specs.FileTree.{ItemTree, ConceptTree}
use Rattle.name_sets.specs.Paths.{is_prefix}
use Rattle.concept_rules.specs.Declarations.{is_among, declared, Variable, variable_of}
use Rattle.concept_rules.specs.Lineage.{effective_items}
use Rattle.canonical_paths.specs.PathNames.{PathNames, names_in}

-- a binding puts its right path in the place of its left one, where the path begins with that
abbrev pub rebind : PathNames → Option PathNames → Bind → Option PathNames
rebind path found b =
    if is_prefix (names_in b.left) path
    then Some (names_in b.right ++ drop (length (names_in b.left)) path)
    else found

-- what a path stands for by one of these bindings, no two of which fit one path
abbrev pub rebound : List Bind → PathNames → Option PathNames
rebound binds path = fold (rebind path) None binds

-- the canonical path inside a type, where that in each concept is given; a number has nothing inside
abbrev pub canonical_in_kind : (List ℕ → PathNames → PathNames) → VarKind → PathNames → PathNames
canonical_in_kind inside Numeric path = path
canonical_in_kind inside (Of type) path = inside type.text path

-- a variable with a path behind it, of which the canonical one inside the variable's type is taken:
-- what a binding puts in its place is taken before the variable, else it stands behind the variable
abbrev pub behind_variable :
    (List ℕ → PathNames → PathNames) → (PathNames → PathNames) → List ℕ → Option Variable
    → PathNames → PathNames
behind_variable inside before name None rest = name ∷ rest
behind_variable inside before name (Some v) rest =
    option_map_or before (rebound v.binds (canonical_in_kind inside v.kind rest))
    (name ∷ canonical_in_kind inside v.kind rest)

-- the canonical path behind these items, of which the latest stands first
abbrev pub canonical_behind :
    (List ℕ → PathNames → PathNames) → List ItemTree → PathNames → PathNames
canonical_behind inside [] path = path
canonical_behind inside (i ∷ before) [] = []
canonical_behind inside (i ∷ before) (name ∷ []) = name ∷ []
canonical_behind inside (i ∷ before) (name ∷ next ∷ rest) =
    if is_among name (declared i)
    then behind_variable inside (canonical_behind inside before) name (variable_of i) (next ∷ rest)
    else canonical_behind inside before (name ∷ next ∷ rest)

-- the effective items of a concept behind these concepts, of which the latest stands first
abbrev pub items_behind : List ConceptTree → ConceptTree → List ItemTree
items_behind earlier c = effective_items (c ∷ earlier) c.name.text

-- the canonical path of a path in the concept of this name
abbrev pub canonical_path : List ConceptTree → List ℕ → PathNames → PathNames
canonical_path [] name path = path
canonical_path (c ∷ earlier) name path =
    if bytes_eq c.name.text name
    then canonical_behind (canonical_path earlier) (reverse (items_behind earlier c)) path
    else canonical_path earlier name path
