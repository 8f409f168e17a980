use Rattle.std.proofs.Common.{sym, ◌∙◌, subst}
use Rattle.concept_unfold.specs.steps.InputPlaces.{ArePlaces}
use Rattle.concept_unfold.proofs.FirstPlaces.{missing}
use Rattle.concept_unfold.proofs.inputs.Inputs.place.Goals as goal

pub returns-in-None-clause-place : goal.returns-in-None-clause-place
returns-in-None-clause-place c =
    λ names a.
    let name = c.args.name.now in
    let inside = subst (λ p. ArePlaces p names) (sym c.self.view_is) a in
    inside.count ∙ sym (missing name names (λ h. let found = c.in-None.ensures.found.1 ((inside.same name).1 h) in cc))
