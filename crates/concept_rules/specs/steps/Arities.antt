-- What the code keeps of subtasks.
use Rattle.std.specs.Prelude.{ℤ, pos, negsuc, zero, suc, List, slice_get, Option, None, option_map}
use Rattle.body_lang.specs.declared.arity.Arity.{Arity}
use Rattle.concept_rules.specs.declared.calls.Sizes.{Sizes}

-- what a subtask of these sizes takes and gives
abbrev pub arity_behind : Sizes → Arity
arity_behind s = record { inputs = s.inputs; outputs = s.outputs }

-- the same, if there is one
abbrev pub arity_found : Option Sizes → Option Arity
arity_found s = option_map arity_behind s

-- the sizes of this number, which count from 1
abbrev pub sizes_numbered : List Sizes → ℤ → Option Sizes
sizes_numbered sizes (pos zero) = None
sizes_numbered sizes (pos (suc k)) = slice_get sizes k
sizes_numbered sizes (negsuc k) = None
