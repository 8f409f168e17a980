use Rattle.std.proofs.Common.{◌≡◌, ℕ, List, refl, ◌∙◌, sym, ap, find, nat_eq, Option, Some, None, option_map, Contains, IfSome, IfNone}
use Rattle.concept_rules.specs.declared.declarations.Declaration.{Declaration}
use Rattle.concept_rules.specs.steps.DeclaredNames.{Declared, items_declaring, item_in}
use Rattle.concept_rules.proofs.Lookup.{declaring_at, none_declaring}
use Rattle.concept_rules.proofs.declarations.Declarations.find.Goals as goal

module _
    (d : Declared) (name among : List ℕ) (ds : List Declaration) (e : items_declaring d name ≡ ds)
  where
    one_found :
        (r : Option Declaration)
        → IfSome r (λ x. Contains among x.concept × (find (λ y. nat_eq y.concept x.concept) ds ≡ Some x))
        → IfSome r (λ x. Contains among x.concept × (item_in d name x.concept ≡ Some x.item))
    one_found None h = tt
    one_found (Some x) h = (h.0, rw e (ap (option_map (λ y. y.item)) h.1))

    none_found :
        (r : Option Declaration)
        → IfNone r ((n : ℕ) → Contains among n → find (λ y. nat_eq y.concept n) ds ≡ None)
        → IfNone r ((n : ℕ) → Contains among n → item_in d name n ≡ None)
    none_found None h = λ n c. rw e (ap (option_map (λ y. y.item)) (h n c))
    none_found (Some x) h = tt

pub returns-in-Some-clause-found : goal.returns-in-Some-clause-found
returns-in-Some-clause-found c =
    let same = ap (λ (d : Declared). items_declaring d c.args.name.now) (sym c.self.view_is) ∙ declaring_at (λ v. v.items) c.self.inside.bound.entries _ _ _ c.self.invariant.1 _ _ c.self.invariant.0 c.in-Some.ensures.place c.index.ensures ∙ sym c.as_slice.ensures.value in
    one_found c.args.self.now c.args.name.now c.args.among.now _ same c.first_among.result c.first_among.ensures.found

pub returns-in-Some-clause-missing : goal.returns-in-Some-clause-missing
returns-in-Some-clause-missing c =
    let same = ap (λ (d : Declared). items_declaring d c.args.name.now) (sym c.self.view_is) ∙ declaring_at (λ v. v.items) c.self.inside.bound.entries _ _ _ c.self.invariant.1 _ _ c.self.invariant.0 c.in-Some.ensures.place c.index.ensures ∙ sym c.as_slice.ensures.value in
    none_found c.args.self.now c.args.name.now c.args.among.now _ same c.first_among.result c.first_among.ensures.missing

pub returns-in-None-clause-missing : goal.returns-in-None-clause-missing
returns-in-None-clause-missing c = λ n among.
    let none = none_declaring (λ v. v.items) c.self.inside.bound.entries _ _ _ c.self.invariant.1 (λ h. let t = c.in-None.ensures.found.1 h in absurd (cc)) in
    let same = ap (λ (d : Declared). items_declaring d c.args.name.now) (sym c.self.view_is) ∙ none in
    rw same refl
