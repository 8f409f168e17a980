-- Concepts that stand in one line that was checked share no name.
use Rattle.std.proofs.Common.{◌≡◌, ◌⊎◌, inl, inr, ℕ, ◌<◌, true, false, List, [], ◌∷◌, get_or, Option, None, Some, refl, sym, ap, ◌∙◌, subst, ⊎_elim, arith}
use Rattle.std.specs.Prelude.{Contains, is_some}
use Rattle.std.specs.Option.{option_or}
use Rattle.std.specs.List.{flat_map}
use Rattle.std.proofs.lemmas.Bool.{false_from_ne_true}
use Rattle.std.proofs.lemmas.Option.{slice_get-get_or}
use Rattle.std.proofs.lemmas.List.Elements.{All-weaker, All-contains, All-contains_itself}
use Rattle.std.proofs.lemmas.List.Folds.{list_any_none}
use Rattle.priz_base.proofs.Members.{contains_here, contains_there}
use Rattle.utopist_syntax.specs.declared.concept.Concept.{Concept}
use Rattle.utopist_syntax.specs.FileTree.{ItemTree}
use Rattle.concept_rules.specs.Declarations.{declaration, is_declared, names_of}
use Rattle.concept_rules.specs.Lineage.{lineage}
use Rattle.concept_rules.specs.ConceptRules.{share_name}
use Rattle.concept_rules.specs.steps.DeclaredNames.{Declared}
use Rattle.concept_rules.specs.Lineages.{Lines}
use Rattle.concept_rules.specs.steps.LinesOf.{StandTogether}
use Rattle.concept_rules.specs.steps.Extent.{Extent, own_items, checked_items, Reached, IsHere, IsLine}
use Rattle.concept_rules.proofs.Items.{declaration-append}
use Rattle.concept_rules.proofs.Lines.{seen_below}
use Rattle.concept_rules.proofs.Among.{among}
use Rattle.concept_rules.proofs.Sharing.{declared_among}

one_of :
    (o p : Option ItemTree) → is_some (option_or o p) ≡ true
    → (is_some o ≡ true) ⊎ (is_some p ≡ true)
one_of None p h = inr h
one_of (Some i) p h = inl refl

-- one of these concepts declares the name
record Declares (g : ℕ → List ItemTree) (line : List ℕ) (name : List ℕ) : Type 0 where
  pub concept : ℕ
  pub there : Contains line concept
  pub declares : is_declared (g concept) name ≡ true

-- what all of these concepts declare one of them does
by_one :
    (g : ℕ → List ItemTree) (line : List ℕ) (name : List ℕ)
    → is_declared (flat_map g line) name ≡ true → Declares g line name
by_one g [] name h = absurd (cc)
by_one g (m ∷ line) name h =
    ⊎_elim
    (λ here. record { concept = m; there = contains_here m line; declares = here })
    (λ later. let r = by_one g line name later in record { concept = r.concept; there = contains_there m line r.concept r.there; declares = r.declares })
    (one_of (declaration (g m) name) (declaration (flat_map g line) name) (ap is_some (sym (declaration-append (g m) (flat_map g line) name)) ∙ h))

module _
    (f : Extent) (concepts : List Concept) (l : Lines) (d : Declared) (at : Reached f concepts l d)
    (taken : List ℕ) (before : List ItemTree) (here : IsHere f taken before) (n : ℕ)
    (new : ¬ Contains taken n) (w : StandTogether l.lines n taken) where
  line_is : IsLine f.all f.concept w.line (lineage f.before (get_or l.names w.there.0 []))
  line_is =
      at.lines.lines w.there.0 (get_or l.names w.there.0 []) w.line
      (slice_get-get_or l.names w.there.0 [] (omega (arith, at.lines.even, w.there.1)))
      (slice_get-get_or l.lines w.there.0 w.line w.there.1 ∙ ap Some w.there.2)

  not_both :
      (name : List ℕ) → is_declared (own_items f.all n) name ≡ true → is_declared before name ≡ true
      → ⊥
  not_both name a b =
      let r = by_one (checked_items f) taken name (subst (λ (items : List ItemTree). is_declared items name ≡ true) here.items b) in
      let there = All-contains (Contains w.line) taken r.concept w.others r.there in
      let below = All-contains (λ k. k < f.concept) w.line r.concept line_is.below there in
      let own = subst (λ (items : List ItemTree). is_declared items name ≡ true) (seen_below f r.concept below) r.declares in
      new (subst (Contains taken) (sym (line_is.apart name n r.concept w.one there a own)) r.there)

  pub none_shared : share_name (own_items f.all n) before ≡ false
  none_shared =
      let names = names_of (own_items f.all n) in
      list_any_none (is_declared before) names
      (All-weaker (Contains names) (λ name. is_declared before name ≡ false)
      (λ name there. false_from_ne_true (is_declared before name) (not_both name (declared_among (own_items f.all n) name ∙ among name names there)))
      names (All-contains_itself names))
