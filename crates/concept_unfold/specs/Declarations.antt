-- The variables of a concept, of the forms that are built.
use Rattle.std.specs.Prelude.{ℕ, if◌then◌else◌, List, [], ◌∷◌}
use Rattle.std.specs.Str.{bytes_eq}
use Rattle.std.specs.List.{flat_map}
use Rattle.name_sets.specs.Paths.{texts}
use Rattle.utopist_syntax.specs.FileTree.{ItemTree, var, eq, rel, ConceptTree}

-- the variables that an item declares, which are numeric in these forms
abbrev pub variables : ItemTree → List (List ℕ)
variables (var names kind binds) = texts names
variables (eq left right) = []
variables (rel name parts output body) = []

-- the variables that items declare, in order
abbrev pub all_variables : List ItemTree → List (List ℕ)
all_variables items = flat_map variables items

-- the items of the first concept of this name, or none where there is no such concept
abbrev pub items_of : List ConceptTree → List ℕ → List ItemTree
items_of [] name = []
items_of (c ∷ cs) name = if bytes_eq c.name.text name then c.items else items_of cs name
