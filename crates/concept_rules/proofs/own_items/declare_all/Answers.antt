use Rattle.std.proofs.Common.{◌≡◌, ◌<◌, ◌+◌, false, ◌∙◌, ap, sym, List, ℕ, None, subst, get_or, length, take, arith}
use Rattle.std.proofs.lemmas.List.{get_or-map, length-map}
use Rattle.std.specs.List.{take-map}
use Rattle.priz_base.proofs.More.{map_more}
use Rattle.utopist_syntax.specs.Named.{Named}
use Rattle.name_sets.specs.Paths.{texts}
use Rattle.concept_rules.specs.Declarations.{is_among}
use Rattle.concept_rules.specs.steps.DeclaredNames.{Declared, item_in, AreNewNames, HasMore}
use Rattle.concept_rules.proofs.Declaring.{AddsOne, more_names, still_new, once_front}
use Rattle.concept_rules.proofs.own_items.declare_all.Goals as goal

module _ (old mid new : Declared) (n item : ℕ) (names : List Named) (i : ℕ) (x : Named)
    (lt : i < length names) (is : x ≡ get_or names i x) (fresh : AreNewNames old n (texts names))
    (more : HasMore old mid n item (texts (take i names))) where
  there : get_or (texts names) i x.text ≡ x.text
  there =
      get_or-map (λ (y : Named). y.text) names i x x.text lt ∙ ap (λ (y : Named). y.text) (sym is)

  long : i < length (texts names)
  long = let e = length-map names (λ (y : Named). y.text) in omega (arith, e, lt)

  first : item_in old x.text n ≡ None
  first = subst (λ (t : List ℕ). item_in old t n ≡ None) there (fresh.new i x.text long)

  unseen : is_among x.text (texts (take i names)) ≡ false
  unseen =
      subst (λ (ts : List (List ℕ)). is_among x.text ts ≡ false) (take-map (λ (y : Named). y.text) i names) (once_front (texts names) i x.text fresh.once long there)

  grown :
      (text : List ℕ) → text ≡ x.text → (item_in mid text n ≡ None → AddsOne mid new text n item)
      → HasMore old new n item (texts (take (i + 1) names))
  grown text e adds =
      let none = subst (λ (t : List ℕ). item_in mid t n ≡ None) (sym e) (still_new old mid n item (texts (take i names)) x.text more unseen first) in
      let added = subst (λ (t : List ℕ). AddsOne mid new t n item) e (adds none) in
      subst (λ (ts : List (List ℕ)). HasMore old new n item ts) (sym (map_more (λ (y : Named). y.text) names i x lt is)) (more_names old mid new n item (texts (take i names)) x.text more added)

pub loop-name-preserved : goal.loop-name-preserved
loop-name-preserved c = (
  λ new.
      grown c.args.declared.now c.loop-name.declared c.add.new.self c.args.declaration.concept c.args.declaration.item c.args.names.now c.loop-name.name-index c.name-item.result c.loop-name-test.true c.name-item.is new (c.loop-name.invariant.0 new) _ c.text.ensures c.in_ok-add.ensures.name,
  c.add.ensures.bound ∙ c.loop-name.invariant.1,
)
