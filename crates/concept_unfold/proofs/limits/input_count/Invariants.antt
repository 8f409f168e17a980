use Rattle.std.proofs.Common.{◌≡◌, ◌≤◌, length, take}
use Rattle.concept_unfold.specs.Paths.{inputs_of}
use Rattle.concept_unfold.proofs.limits.input_count.Given as goal

abbrev pub invariant-loop-part : goal.invariant-loop-part
invariant-loop-part l = record {
  count : l.count ≡ length (inputs_of (take l.part-index l.parts));
  few : l.count ≤ l.part-index;
}
