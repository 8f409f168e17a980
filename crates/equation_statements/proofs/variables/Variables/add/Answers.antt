use Rattle.std.proofs.Common.{◌≡◌, ℕ, List, [], ◌∷◌, ◌++◌, None, Some, ◌<◌, set, sym, ap, ◌∙◌, subst, arith, position}
use Rattle.std.specs.Prelude.{◌==◌}
use Rattle.equation_statements.specs.steps.Places.{with_one_more, HasPlaces}
use Rattle.equation_statements.proofs.Places.{few_places, entry, places_new, new_at_last, known_stays, no_option, some_option}
use Rattle.equation_statements.proofs.variables.Variables.add.Goals as goal

pub overflow_cast-place : goal.overflow_cast-place
overflow_cast-place c =
    omega (arith, c.len-place.ensures, few_places c.self.inside.list c.self.inside.places.items c.self.invariant)

pub invariant_of-self-then-is_none : goal.invariant_of-self-then-is_none
invariant_of-self-then-is_none c =
    let vs = c.self.inside.list in
    let places = c.self.inside.places.items in
    let w = c.v.inside.0 in
    let lt : w < 1024 = omega (arith, c.v.view_is, c.requires) in
    let none : position (λ (u : ℕ). u == w) vs ≡ None = entry vs places c.self.invariant w lt c.index.result.now c.index.ensures ∙ no_option c.index.result.now c.if-is_none.ensures in
    let new : c.push.new.self ≡ vs ++ w ∷ [] = c.in_ok-push.ensures.ok ∙ ap (λ (u : ℕ). vs ++ u ∷ []) (sym c.v.view_is) in
    subst (λ (us : List ℕ). HasPlaces us (set places w (Some c.len-place.result))) (sym new)
    (subst (λ (n : ℕ). HasPlaces (vs ++ w ∷ []) (set places w (Some n))) (sym c.len-place.ensures) (places_new vs places c.self.invariant w lt none))

pub returns-in_ok-push-clause-ok : goal.returns-in_ok-push-clause-ok
returns-in_ok-push-clause-ok c =
    let vs = c.self.inside.list in
    let places = c.self.inside.places.items in
    let w = c.v.inside.0 in
    let lt : w < 1024 = omega (arith, c.v.view_is, c.requires) in
    let none : position (λ (u : ℕ). u == w) vs ≡ None = entry vs places c.self.invariant w lt c.index.result.now c.index.ensures ∙ no_option c.index.result.now c.if-is_none.ensures in
    c.in_ok-push.ensures.ok
    ∙ ap (λ (u : ℕ). vs ++ u ∷ []) (sym c.v.view_is)
    ∙ sym (new_at_last vs places c.self.invariant w lt none)
    ∙ ap (with_one_more vs) c.v.view_is
    ∙ ap (λ (us : List ℕ). with_one_more us c.args.v) c.self.view_is

pub returns-else-is_none-clause-ok : goal.returns-else-is_none-clause-ok
returns-else-is_none-clause-ok c =
    let vs = c.self.inside.list in
    let places = c.self.inside.places.items in
    let w = c.v.inside.0 in
    let lt : w < 1024 = omega (arith, c.v.view_is, c.requires) in
    let some = some_option c.index.result.now c.if-is_none.ensures in
    let there : position (λ (u : ℕ). u == w) vs ≡ Some some.0 = entry vs places c.self.invariant w lt c.index.result.now c.index.ensures ∙ some.1 in
    sym c.self.view_is
    ∙ sym (known_stays vs places c.self.invariant w lt some.0 there)
    ∙ ap (with_one_more vs) c.v.view_is
    ∙ ap (λ (us : List ℕ). with_one_more us c.args.v) c.self.view_is
