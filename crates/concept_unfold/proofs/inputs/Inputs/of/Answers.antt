use Rattle.std.proofs.Common.{sym, subst, take, ◌+◌, arith}
use Rattle.concept_unfold.specs.Paths.{input_names}
use Rattle.concept_unfold.specs.steps.InputPlaces.{ArePlaces}
use Rattle.concept_unfold.proofs.FirstPlaces.{few_inputs, inputs_more}
use Rattle.concept_unfold.proofs.inputs.Inputs.of.Goals as goal

pub loop-part-preserved : goal.loop-part-preserved
loop-part-preserved c =
    let parts = c.args.parts.now in
    let i = c.loop-part.part-index in
    let places = subst (ArePlaces _) (sym (inputs_more parts i c.part-item.result c.loop-part-test.true c.part-item.is)) (c.in_ok-add_part.ensures (input_names (take i parts)) c.loop-part.invariant.places) in
    record { places = places; few = omega (arith, places.count, few_inputs parts (i + 1)) }
