use Rattle.std.proofs.Common.{refl, sym, subst}
use Rattle.concept_unfold.specs.steps.InputPlaces.{ArePlaces}
use Rattle.concept_unfold.specs.contracts.inputs.Inputs.{the_view}
use Rattle.concept_unfold.proofs.FirstPlaces.{places_kept, places_added}
use Rattle.concept_unfold.proofs.inputs.Inputs.add.Goals as goal
use Rattle.concept_unfold.proofs.inputs.Inputs.add.Goals.{then-not-has+in_ok-push+in_ok-add, else-not-has}

pub returns : goal.returns
returns c =
    λ names a.
    let name = c.args.name.now in
    let inside = subst (λ p. ArePlaces p names) (sym c.self.view_is) a in
    elim c.if-not-has.branch [
      | then-not-has+in_ok-push+in_ok-add w ↦
          rw (w.self-inside-is, w.in_ok-add.ensures.ok, w.in_ok-push.ensures.ok)
          (places_added (the_view c.self.inside) names name inside (λ h. let there = w.if-not-has.ensures.1 h in cc))
      | else-not-has w ↦
          rw (w.self-inside-is) (places_kept (the_view c.self.inside) names name inside (w.if-not-has.ensures.0 refl))
    ]
