-- Which paths are known at a point of a concept, and their types.
use Rattle.std.specs.Prelude.{ℕ, List, [], ◌∷◌, Bool, true, false, Option, Some, None, option_and_then}
use Rattle.std.specs.Str.{bytes_eq}
use Rattle.utopist_syntax.specs.Named.{Named}
use Rattle.utopist_syntax.specs.declared.item.VarKind.{VarKind}
use Rattle.utopist_syntax.specs.declared.item.VarKind.TheVariants.{Numeric, Of}
use Rattle.utopist_syntax.specs.FileTree.{ItemTree, ConceptTree}
use Rattle.concept_rules.specs.Declarations.{Variable, variable}
use Rattle.concept_rules.specs.Lineage.{effective_items}

-- the variable of this name inside a type, a number having none;
-- here and below the latest concept stands first
abbrev pub variable_in : List ConceptTree → VarKind → List ℕ → Option Variable
variable_in concepts Numeric name = None
variable_in concepts (Of type) name = variable (effective_items concepts type.text) name

-- the type of a path that begins inside a type: that of its last segment,
-- where each segment is a variable inside the type before it
abbrev pub kind_along : List ConceptTree → VarKind → List Named → Option VarKind
kind_along concepts kind [] = Some kind
kind_along concepts kind (s ∷ rest) =
    option_and_then (λ v. kind_along concepts v.kind rest) (variable_in concepts kind s.text)

-- the type of a path behind these items, where it is known
abbrev pub kind_of_path : List ConceptTree → List ItemTree → List Named → Option VarKind
kind_of_path concepts items [] = None
kind_of_path concepts items (s ∷ rest) =
    option_and_then (λ v. kind_along concepts v.kind rest) (variable items s.text)

-- both are numeric, or both the same concept
abbrev pub is_same_kind : VarKind → VarKind → Bool
is_same_kind Numeric Numeric = true
is_same_kind Numeric (Of type) = false
is_same_kind (Of type) Numeric = false
is_same_kind (Of type) (Of other) = bytes_eq type.text other.text
