use Rattle.std.proofs.Common.{◌≡◌, ◌∙◌, ◌++◌, ◌∷◌, [], ap, subst, List, map, set, arith}
use Rattle.std.specs.Prelude.{Contains}
use Rattle.std.proofs.lemmas.List.{length-append}
use Rattle.concept_rules.specs.declared.declarations.Declaration.{Declaration}
use Rattle.concept_rules.specs.steps.DeclaredNames.{Declared, AddsName}
use Rattle.concept_rules.proofs.Adding.{adds_known, adds_new, once_push}
use Rattle.concept_rules.proofs.declarations.Declarations.add.Goals as goal

pub invariant_of-self-in_default : goal.invariant_of-self-in_default
invariant_of-self-in_default c =
    let new : ¬ Contains c.self.inside.names c.args.name.now = λ h. let t = c.in-None.ensures.found.1 h in absurd (cc) in
    rw (c.in_default.ensures.ok, c.in_ok-push-in-None-2.ensures.items)
    (once_push _ _ c.self.invariant.0 new, let a = length-append c.self.inside.names (c.args.name.now ∷ []) in let b = length-append c.self.inside.items.items (c.push-in-None.new.self ∷ []) in let e = c.self.invariant.1 in omega (arith, a, b, e))

pub returns-in_ok-push-in-Some-clause-name : goal.returns-in_ok-push-in-Some-clause-name
returns-in_ok-push-in-Some-clause-name c =
    subst (λ (s : Declared). AddsName s (record { names = c.self.inside.names; items = map (λ v. v.items) (set c.self.inside.items.items c.in-Some.place c.push.new.self); bound = c.self.inside.bound.entries }) c.args.name.now c.args.declaration) c.self.view_is
    (adds_known (λ v. v.items) c.self.inside.bound.entries c.self.inside.names c.self.inside.items.items c.args.name.now c.args.declaration c.self.invariant.0 c.self.invariant.1 c.in-Some.place c.index_mut.result.now c.push.new.self c.in-Some.ensures.place c.index_mut.ensures.value c.in_ok-push-in-Some.ensures.items)

pub returns-in_default-clause-name : goal.returns-in_default-clause-name
returns-in_default-clause-name c =
    let new : ¬ Contains c.self.inside.names c.args.name.now = λ h. let t = c.in-None.ensures.found.1 h in absurd (cc) in
    let alone : c.push-in-None.new.self.items ≡ c.args.declaration ∷ [] = c.in_ok-push-in-None.ensures.items ∙ ap (λ (xs : List Declaration). xs ++ c.args.declaration ∷ []) c.new-items.ensures.items in
    let base = adds_new (λ v. v.items) c.self.inside.bound.entries c.self.inside.names c.self.inside.items.items c.args.name.now c.args.declaration c.self.invariant.0 c.self.invariant.1 new c.push-in-None.new.self alone in
    subst (λ (s : Declared). AddsName s (record { names = c.add.new.self; items = map (λ v. v.items) c.push-in-None-2.new.self.items; bound = c.self.inside.bound.entries }) c.args.name.now c.args.declaration) c.self.view_is
    (rw (c.in_default.ensures.ok, c.in_ok-push-in-None-2.ensures.items) base)
