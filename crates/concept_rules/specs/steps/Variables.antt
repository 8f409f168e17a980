-- What the code keeps of a variable.
use Rattle.std.specs.Prelude.{ℕ, List, [], Option, option_map}
use Rattle.std.specs.Option.{option_map_or}
use Rattle.utopist_syntax.specs.declared.item.VarKind.{VarKind}
use Rattle.utopist_syntax.specs.FileTree.{ItemTree, var, eq, rel}
use Rattle.concept_rules.specs.declared.kinds.Known.{Known}
use Rattle.concept_rules.specs.Declarations.{Variable}
use Rattle.concept_rules.specs.Overlap.{left_paths}

-- the type of a variable, and the left paths of its bindings
pub record Outline : Type 0 where
  pub kind : VarKind
  pub bound : List (List (List ℕ))

-- these of a variable
abbrev pub outline : Variable → Outline
outline v = record { kind = v.kind; bound = left_paths v.binds }

-- these behind references
abbrev pub outline_behind : Known → Outline
outline_behind k = record { kind = k.kind.now; bound = option_map_or (λ b. b.now) k.bound [] }

-- the same, if there is one
abbrev pub outline_found : Option Known → Option Outline
outline_found k = option_map outline_behind k

-- the left paths of the bindings of an item
abbrev pub bound_by : ItemTree → List (List (List ℕ))
bound_by (var names kind binds) = left_paths binds
bound_by (eq left right) = []
bound_by (rel name parts output body) = []
