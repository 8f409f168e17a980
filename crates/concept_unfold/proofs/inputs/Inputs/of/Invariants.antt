use Rattle.std.proofs.Common.{◌≤◌, take}
use Rattle.concept_unfold.specs.Paths.{input_names}
use Rattle.concept_unfold.specs.steps.InputPlaces.{ArePlaces}
use Rattle.concept_unfold.proofs.inputs.Inputs.of.Given as goal

-- the inputs among the parts so far
abbrev pub invariant-loop-part : goal.invariant-loop-part
invariant-loop-part l = record {
  places : ArePlaces l.inputs (input_names (take l.part-index l.parts));
  few : l.inputs.count ≤ l.part-index;
}
