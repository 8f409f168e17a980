use Rattle.std.proofs.Common.{◌≡◌, map, take}
use Rattle.concept_unfold.specs.Paths.{inputs_of}
use Rattle.concept_unfold.specs.Unfolded.{var_number}
use Rattle.concept_unfold.proofs.numbers.input_vars.Given as goal

abbrev pub invariant-loop-part : goal.invariant-loop-part
invariant-loop-part l = l.vars ≡ map (var_number l.problem.names) (inputs_of (take l.part-index l.parts))
