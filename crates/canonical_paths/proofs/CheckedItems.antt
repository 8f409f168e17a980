-- Items that pass their rules are scoped.
use Rattle.std.proofs.Common.{◌≡◌, ℕ, Bool, true, false, ◌||◌, List, [], ◌∷◌, ◌++◌, Option, Some, None, Ok, refl, sym, ap, ◌∙◌, subst}
use Rattle.std.specs.Prelude.{is_some, not, option_and_then}
use Rattle.std.specs.Str.{bytes_eq}
use Rattle.std.proofs.lemmas.Bool.{both_ways}
use Rattle.std.proofs.lemmas.Option.{same_Some}
use Rattle.std.proofs.lemmas.Slice.Eq.{bytes_eq-Decides}
use Rattle.body_lang.specs.Verdicts.{and_then, fault_unless}
use Rattle.body_lang.proofs.Verdicts.{first_passes, second_passes}
use Rattle.utopist_syntax.specs.Named.{Named}
use Rattle.utopist_syntax.specs.declared.item.Bind.{Bind}
use Rattle.utopist_syntax.specs.declared.item.VarKind.{VarKind}
use Rattle.utopist_syntax.specs.FileTree.{ItemTree, var, eq, rel, ConceptTree}
use Rattle.name_sets.specs.Paths.{texts}
use Rattle.concept_rules.specs.declared.fault.ModelFault.{ModelFault}
use Rattle.concept_rules.specs.Declarations.{is_among, declaration, is_declared, Variable, variable_of}
use Rattle.concept_rules.specs.Kinds.{kind_along, kind_of_path}
use Rattle.concept_rules.specs.BindRules.{binds_fault}
use Rattle.concept_rules.specs.ItemRules.{new_name, new_names, item_fault}
use Rattle.concept_rules.specs.ConceptRules.{items_fault}
use Rattle.canonical_paths.specs.Scoped.{LeadsTo, AllLeadTo, IsScoped}
use Rattle.canonical_paths.proofs.Scoping.{ScopedFrom}

-- a test that lets through has passed
pub passed : (t : Bool) (e : ModelFault) → fault_unless t e ≡ Ok tt → t ≡ true
passed true e h = refl
passed false e h = absurd (cc)

neither : (a b : Bool) → not (a || b) ≡ true → a ≡ false
neither true b h = absurd (cc)
neither false b h = refl

new_is : (before : List ItemTree) (others : List (List ℕ)) (n : Named) → new_name before others n ≡ Ok tt → is_declared before n.text ≡ false
new_is before others n h = neither (is_declared before n.text) (is_among n.text others) (passed _ _ h)

names_are_new : (before : List ItemTree) (others : List (List ℕ)) (ns : List Named) → new_names before others ns ≡ Ok tt → (name : List ℕ) → is_among name (texts ns) ≡ true → is_declared before name ≡ false
names_are_new before others [] h name a = absurd (both_ways (is_among name (texts [])) refl a)
names_are_new before others (n ∷ ns) h name a =
    by (bytes_eq name n.text) refl (names_are_new before (others ++ n.text ∷ []) ns (second_passes _ _ h) name)
  where
    by : (t : Bool) → bytes_eq name n.text ≡ t → (is_among name (texts ns) ≡ true → is_declared before name ≡ false) → is_declared before name ≡ false
    by true e k = subst (λ (m : List ℕ). is_declared before m ≡ false) (sym ((bytes_eq-Decides name n.text).0 e)) (new_is before others n (first_passes _ _ h))
    by false e k = k (sym (ap (λ t. t || is_among name (texts ns)) e) ∙ a)

-- a path that is known begins with a name that is declared
some_declared : (o : Option ItemTree) (k : Variable → Option VarKind) → is_some (option_and_then k (option_and_then variable_of o)) ≡ true → is_some o ≡ true
some_declared (Some i) k h = refl
some_declared None k h = absurd (cc)

known_leads : (concepts : List ConceptTree) (before : List ItemTree) (b : Bind) (names : List Named) → names ≡ b.right.parts → is_some (kind_of_path concepts before names) ≡ true → LeadsTo before b
known_leads concepts before b [] e h = absurd (cc)
known_leads concepts before b (s ∷ rest) e h = record {
  first = s.text;
  rest = texts rest;
  is = ap texts (sym e);
  known = some_declared (declaration before s.text) (λ v. kind_along concepts v.kind rest) h;
}

binds_lead : (concepts : List ConceptTree) (before : List ItemTree) (kind : VarKind) (bound : List (List (List ℕ))) (binds : List Bind) → binds_fault concepts before kind bound binds ≡ Ok tt → AllLeadTo before binds
binds_lead concepts before kind bound [] h = tt
binds_lead concepts before kind bound (b ∷ binds) h =
    let one = first_passes _ _ h in
    let right = second_passes _ _ (second_passes _ _ one) in (
      known_leads concepts before b b.right.parts refl (passed _ _ right),
      binds_lead concepts before kind (bound ++ texts b.left.parts ∷ []) binds (second_passes _ _ h),
    )

item_scoped : (concepts : List ConceptTree) (before : List ItemTree) (i : ItemTree) → item_fault concepts before i ≡ Ok tt → IsScoped i before
item_scoped concepts before (var names kind binds) h = record {
  new = names_are_new before [] names (first_passes _ _ h);
  leads = λ v is.
      subst (λ (w : Variable). AllLeadTo before w.binds) (same_Some (record { kind = kind; binds = binds }) v is)
      (binds_lead concepts before kind [] binds (second_passes _ _ (second_passes _ _ h)));
}
item_scoped concepts before (eq left right) h = record {
  new = λ name a. absurd (both_ways (is_among name []) refl a);
  leads = λ v is. absurd (cc);
}
item_scoped concepts before (rel n parts output body) h = record {
  new = names_are_new before [] (n ∷ []) (ap (λ v. and_then v (Ok tt)) (first_passes _ _ h));
  leads = λ v is. absurd (cc);
}

pub items_scoped : (concepts : List ConceptTree) (before items : List ItemTree) → items_fault concepts before items ≡ Ok tt → ScopedFrom before items
items_scoped concepts before [] h = tt
items_scoped concepts before (i ∷ items) h =
    (item_scoped concepts before i (first_passes _ _ h), items_scoped concepts (before ++ i ∷ []) items (second_passes _ _ h))
