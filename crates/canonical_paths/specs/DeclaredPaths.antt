-- The declared paths of a concept, bound or not.
use Rattle.std.specs.Prelude.{ℕ, max, fold, if◌then◌else◌, List, [], ◌∷◌, map, length}
use Rattle.std.specs.Str.{bytes_eq}
use Rattle.std.specs.List.{flat_map}
use Rattle.utopist_syntax.specs.declared.item.VarKind.{VarKind}
use Rattle.utopist_syntax.specs.declared.item.VarKind.TheVariants.{Numeric, Of}
use Rattle.utopist_syntax.specs.FileTree.{ItemTree, var, eq, rel, ConceptTree}
use Rattle.canonical_paths.specs.PathNames.{PathNames}
use Rattle.canonical_paths.specs.Canonical.{items_behind}

-- the paths inside a type, where those of each concept are given; a number has none
abbrev pub paths_in_kind : (List ℕ → List PathNames) → VarKind → List PathNames
paths_in_kind inside Numeric = []
paths_in_kind inside (Of type) = inside type.text

-- a variable, and the paths inside of it behind it
abbrev pub variable_paths : List PathNames → List ℕ → List PathNames
variable_paths inside name = (name ∷ []) ∷ map (λ p. name ∷ p) inside

-- the variables of an item, each with the paths inside of it
abbrev pub item_paths : (List ℕ → List PathNames) → ItemTree → List PathNames
item_paths inside (var names kind binds) =
    flat_map (λ n. variable_paths (paths_in_kind inside kind) n.text) names
item_paths inside (eq left right) = []
item_paths inside (rel name parts output body) = []

-- the declared paths of the concept of this name, in order; the latest concept stands first
abbrev pub declared_paths : List ConceptTree → List ℕ → List PathNames
declared_paths [] name = []
declared_paths (c ∷ earlier) name =
    if bytes_eq c.name.text name
    then flat_map (item_paths (declared_paths earlier)) (items_behind earlier c)
    else declared_paths earlier name

-- the most segments of these paths
abbrev pub most_segments : List PathNames → ℕ
most_segments paths = fold (λ n p. max n (length p)) 0 paths
