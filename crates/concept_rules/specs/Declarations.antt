-- What items declare.
use Rattle.std.specs.Prelude.{ℕ, if◌then◌else◌, Bool, List, [], ◌∷◌, Option, Some, None, option_and_then, is_some}
use Rattle.std.specs.Str.{bytes_eq}
use Rattle.std.specs.List.{flat_map, list_any}
use Rattle.name_sets.specs.Paths.{texts}
use Rattle.utopist_syntax.specs.declared.item.VarKind.{VarKind}
use Rattle.utopist_syntax.specs.declared.item.Bind.{Bind}
use Rattle.utopist_syntax.specs.FileTree.{ItemTree, var, eq, rel}

-- the name is one of these
abbrev pub is_among : List ℕ → List (List ℕ) → Bool
is_among name names = list_any (bytes_eq name) names

-- the names that an item declares
abbrev pub declared : ItemTree → List (List ℕ)
declared (var names kind binds) = texts names
declared (eq left right) = []
declared (rel name parts output body) = name.text ∷ []

-- the names that items declare
abbrev pub names_of : List ItemTree → List (List ℕ)
names_of items = flat_map declared items

-- the first of these items that declares this name
abbrev pub declaration : List ItemTree → List ℕ → Option ItemTree
declaration [] name = None
declaration (i ∷ items) name = if is_among name (declared i) then Some i else declaration items name

-- some item declares it
abbrev pub is_declared : List ItemTree → List ℕ → Bool
is_declared items name = is_some (declaration items name)

-- what a variable is: its type, and its bindings
pub record Variable : Type 0 where
  pub kind : VarKind
  pub binds : List Bind

-- what the variables of an item are, where it declares variables
abbrev pub variable_of : ItemTree → Option Variable
variable_of (var names kind binds) = Some (record { kind = kind; binds = binds })
variable_of (eq left right) = None
variable_of (rel name parts output body) = None

-- the variable of this name
abbrev pub variable : List ItemTree → List ℕ → Option Variable
variable items name = option_and_then variable_of (declaration items name)
