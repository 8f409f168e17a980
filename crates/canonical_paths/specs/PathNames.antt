-- Paths as lists of names.
use Rattle.std.specs.Prelude.{ℕ, List}
use Rattle.utopist_syntax.specs.declared.path.Path.{Path}
use Rattle.name_sets.specs.Paths.{texts}

-- the names of a path, in order
abbrev pub PathNames : Type 0
PathNames = List (List ℕ)

-- the names of a path of the text
abbrev pub names_in : Path → PathNames
names_in p = texts p.parts
