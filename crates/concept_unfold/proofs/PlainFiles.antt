-- Where the rules of concepts hold of a file of the forms that are built, the file follows.
use Rattle.std.proofs.Common.{◌≡◌, ℕ, zero, suc, ◌+◌, ◌≤◌, Bool, true, false, not, ◌||◌, List, [], ◌∷◌, ◌++◌, length, Some, Ok, refl, sym, ap, ◌∙◌, subst, append_assoc, arith}
use Rattle.std.specs.Prelude.{if◌then◌else◌, All, slice_get, reverse, nat_le, fold}
use Rattle.std.specs.Str.{bytes_eq}
use Rattle.std.proofs.lemmas.Bool.{leb-true}
use Rattle.std.proofs.lemmas.List.{append-nil, reverse-append}
use Rattle.std.proofs.lemmas.List.Elements.{All-nil, All-cons, All-head, All-tail}
use Rattle.std.proofs.lemmas.Slice.Eq.{bytes_eq-Decides}
use Rattle.body_lang.proofs.Verdicts.{first_passes, second_passes, test_passes}
use Rattle.utopist_syntax.specs.Named.{Named}
use Rattle.utopist_syntax.specs.declared.path.Path.{Path}
use Rattle.utopist_syntax.specs.declared.compute.Compute.{Compute}
use Rattle.utopist_syntax.specs.FileTree.{ItemTree, ConceptTree, FileTree}
use Rattle.concept_rules.specs.declared.fault.Rule.TheVariants as rule
use Rattle.concept_rules.specs.declared.fault.Limit.TheVariants as limit
use Rattle.concept_rules.specs.Declarations.{is_among}
use Rattle.concept_rules.specs.Lineage.{concept_names, lineage, take_parent, all_items, effective_items, inherited_items}
use Rattle.concept_rules.specs.Paths.{given_paths}
use Rattle.concept_rules.specs.PathRules.{broken_at, numeric_paths}
use Rattle.concept_rules.proofs.Lookup.{false_of}
use Rattle.concept_rules.specs.ConceptRules.{items_fault, concept_fault, concept_name_fault, concepts_fault, goal_fault, computes_fault, file_fault}
use Rattle.concept_unfold.specs.Built.{IsBuiltItem, IsBuiltConcept, IsBuilt}
use Rattle.concept_unfold.specs.Declarations.{all_variables, items_of}
use Rattle.concept_unfold.specs.Paths.{IsOneOf}
use Rattle.concept_unfold.specs.Unfolded.{AreKnown}
use Rattle.concept_unfold.specs.steps.Plain.{ItemsFollow}
use Rattle.concept_unfold.specs.steps.PlainFile.{FileFollows}
use Rattle.concept_unfold.proofs.PlainItems.{path_known, items_follow}

-- ---- names

turned : (x y : List ℕ) (b : Bool) → bytes_eq x y ≡ b → bytes_eq y x ≡ b
turned x y true e = (bytes_eq-Decides y x).1 (sym ((bytes_eq-Decides x y).0 e))
turned x y false e = false_of (bytes_eq y x) (λ t. let h : bytes_eq x y ≡ true = (bytes_eq-Decides x y).1 (sym ((bytes_eq-Decides y x).0 t)) in cc)

not_true : (b : Bool) → not b ≡ true → b ≡ false
not_true true e = absurd (cc)
not_true false e = refl

name_new : (earlier : List ConceptTree) (n : Named) → concept_name_fault earlier n ≡ Ok tt → is_among n.text (concept_names earlier) ≡ false
name_new earlier n e = not_true (is_among n.text (concept_names earlier)) (test_passes (not (is_among n.text (concept_names earlier))) (broken_at n rule.DuplicateName) (second_passes _ _ e))

among_or : (a b : Bool) → b ≡ true → (a || b) ≡ true
among_or true b e = refl
among_or false b e = e

other_name : (earlier : List ConceptTree) (c : ConceptTree) (name : List ℕ) (b : Bool) → bytes_eq name c.name.text ≡ b → is_among c.name.text (concept_names earlier) ≡ false → is_among name (concept_names earlier) ≡ true → b ≡ false
other_name earlier c name true e new t =
    let same : is_among name (concept_names earlier) ≡ is_among c.name.text (concept_names earlier) = ap (λ (x : List ℕ). is_among x (concept_names earlier)) ((bytes_eq-Decides name c.name.text).0 e) in
    cc
other_name earlier c name false e new t = refl

-- a name of an earlier concept is that of no later one
later_new : (earlier cs : List ConceptTree) (name : List ℕ) → concepts_fault earlier cs ≡ Ok tt → is_among name (concept_names earlier) ≡ true → is_among name (concept_names cs) ≡ false
later_new earlier [] name e t = refl
later_new earlier (c ∷ cs) name e t =
    let own = other_name earlier c name (bytes_eq name c.name.text) refl (name_new earlier c.name (first_passes _ _ (first_passes _ _ e))) t in
    let later = later_new (c ∷ earlier) cs name (second_passes _ _ e) (among_or (bytes_eq name c.name.text) (is_among name (concept_names earlier)) t) in
    ap (λ b. b || is_among name (concept_names cs)) own ∙ later

-- ---- the items of a concept

items_here : (c : ConceptTree) (cs : List ConceptTree) (name : List ℕ) (b : Bool) → bytes_eq c.name.text name ≡ b → items_of (c ∷ cs) name ≡ (if b then c.items else items_of cs name)
items_here c cs name b e = ap (λ (t : Bool). if t then c.items else items_of cs name) e

effective_here : (earlier : List ConceptTree) (c : ConceptTree) (name : List ℕ) (b : Bool) → c.parents ≡ [] → bytes_eq c.name.text name ≡ b → effective_items (c ∷ earlier) name ≡ (if b then c.items else effective_items earlier name)
effective_here earlier c name true none e =
    ap (λ (t : Bool). all_items (if t then fold (take_parent (lineage earlier)) [] c.parents ++ c ∷ [] else lineage earlier name)) e
    ∙ ap (λ (ps : List Named). all_items (fold (take_parent (lineage earlier)) [] ps ++ c ∷ [])) none ∙ append-nil c.items
effective_here earlier c name false none e = ap (λ (t : Bool). all_items (if t then fold (take_parent (lineage earlier)) [] c.parents ++ c ∷ [] else lineage earlier name)) e

-- the items of the concept of this name among these, or else among the earlier ones
abbrev found : List ConceptTree → List ConceptTree → List ℕ → List ItemTree
found earlier cs name = if is_among name (concept_names cs) then items_of cs name else effective_items earlier name

found_at : (earlier : List ConceptTree) (c : ConceptTree) (cs : List ConceptTree) (name : List ℕ) (b : Bool) → c.parents ≡ [] → bytes_eq c.name.text name ≡ b → (b ≡ true → is_among name (concept_names cs) ≡ false) → found (c ∷ earlier) cs name ≡ found earlier (c ∷ cs) name
found_at earlier c cs name true none e new =
    rw (new refl, effective_here earlier c name true none e, items_here c cs name true e, turned c.name.text name true e) refl
found_at earlier c cs name false none e new =
    rw (effective_here earlier c name false none e, items_here c cs name false e, turned c.name.text name false e) refl

one_first : (earlier : List ConceptTree) (c : ConceptTree) (cs : List ConceptTree) → reverse (c ∷ cs) ++ earlier ≡ reverse cs ++ (c ∷ earlier)
one_first earlier c cs = ap (λ (xs : List ConceptTree). xs ++ earlier) (reverse-append (c ∷ []) cs) ∙ append_assoc (reverse cs) (c ∷ []) earlier

effective_found : (earlier cs : List ConceptTree) (name : List ℕ) → concepts_fault earlier cs ≡ Ok tt → All IsBuiltConcept cs → effective_items (reverse cs ++ earlier) name ≡ found earlier cs name
effective_found earlier [] name e built = refl
effective_found earlier (c ∷ cs) name e built =
    let rest = second_passes _ _ e in
    ap (λ (xs : List ConceptTree). effective_items xs name) (one_first earlier c cs)
    ∙ effective_found (c ∷ earlier) cs name rest (All-tail IsBuiltConcept c cs built)
    ∙ found_at earlier c cs name (bytes_eq c.name.text name) (All-head IsBuiltConcept c cs built).0 refl
    (λ t. later_new (c ∷ earlier) cs name rest (ap (λ b. b || is_among name (concept_names earlier)) (turned c.name.text name true t)))

none_there : (cs : List ConceptTree) (name : List ℕ) (b : Bool) → is_among name (concept_names cs) ≡ b → (if b then items_of cs name else []) ≡ items_of cs name
none_there cs name true e = refl
none_there [] name false e = refl
none_there (c ∷ cs) name false e = none_at c cs name (bytes_eq name c.name.text) refl e (λ d. none_there cs name false d) where
  none_at : (c : ConceptTree) (cs : List ConceptTree) (name : List ℕ) (b : Bool) → bytes_eq name c.name.text ≡ b → (b || is_among name (concept_names cs)) ≡ false → (is_among name (concept_names cs) ≡ false → [] ≡ items_of cs name) → [] ≡ items_of (c ∷ cs) name
  none_at c cs name true e d rest = absurd (cc)
  none_at c cs name false e d rest = rest d ∙ sym (items_here c cs name false (turned name c.name.text false e))

-- the effective items of a concept are its own
same_items : (cs : List ConceptTree) (name : List ℕ) → concepts_fault [] cs ≡ Ok tt → All IsBuiltConcept cs → effective_items (reverse cs) name ≡ items_of cs name
same_items cs name e built =
    ap (λ (xs : List ConceptTree). effective_items xs name) (sym (append-nil (reverse cs))) ∙ effective_found [] cs name e built
    ∙ none_there cs name (is_among name (concept_names cs)) refl

-- ---- each concept

own_follow : (earlier : List ConceptTree) (c : ConceptTree) → concept_fault earlier c ≡ Ok tt → IsBuiltConcept c → ItemsFollow [] c.items
own_follow earlier c e built =
    items_follow earlier [] c.items (All-nil IsBuiltItem) built.1
    (subst (λ (ps : List Named). items_fault earlier (inherited_items earlier ps) c.items ≡ Ok tt) built.0 (second_passes _ _ (second_passes _ _ e)))

-- what holds of the items of a concept holds of those that are found
by_name : (P : List ItemTree → Type 0) (c : ConceptTree) (cs : List ConceptTree) (name : List ℕ) (b : Bool) → bytes_eq c.name.text name ≡ b → P c.items → P (items_of cs name) → P (items_of (c ∷ cs) name)
by_name P c cs name true e here rest = subst P (sym (items_here c cs name true e)) here
by_name P c cs name false e here rest = subst P (sym (items_here c cs name false e)) rest

each_follows : (earlier cs : List ConceptTree) (name : List ℕ) → concepts_fault earlier cs ≡ Ok tt → All IsBuiltConcept cs → ItemsFollow [] (items_of cs name)
each_follows earlier [] name e built = tt
each_follows earlier (c ∷ cs) name e built =
    by_name (ItemsFollow []) c cs name (bytes_eq c.name.text name) refl (own_follow earlier c (first_passes _ _ e) (All-head IsBuiltConcept c cs built)) (each_follows (c ∷ earlier) cs name (second_passes _ _ e) (All-tail IsBuiltConcept c cs built))

-- the items of each concept are built
pub own_built : (cs : List ConceptTree) (name : List ℕ) → All IsBuiltConcept cs → All IsBuiltItem (items_of cs name)
own_built [] name built = All-nil IsBuiltItem
own_built (c ∷ cs) name built =
    by_name (All IsBuiltItem) c cs name (bytes_eq c.name.text name) refl (All-head IsBuiltConcept c cs built).1 (own_built cs name (All-tail IsBuiltConcept c cs built))

-- ---- each compute statement

paths_known : (concepts : List ConceptTree) (items : List ItemTree) (ps : List Path) → All IsBuiltItem items → numeric_paths concepts items ps ≡ Ok tt → AreKnown (all_variables items) ps
paths_known concepts items [] built e = All-nil (IsOneOf (all_variables items))
paths_known concepts items (p ∷ ps) built e =
    All-cons (IsOneOf (all_variables items)) p ps (path_known concepts items p built (first_passes _ _ e)) (paths_known concepts items ps built (second_passes _ _ e))

compute_at : (most : ℕ) (concepts : List ConceptTree) (before : ℕ) (ws : List Compute) (k : ℕ) (w : Compute) → computes_fault most concepts before ws ≡ Ok tt → slice_get ws k ≡ Some w → goal_fault concepts (effective_items concepts w.name.text) w ≡ Ok tt
compute_at most concepts before [] k w e at = absurd (cc)
compute_at most concepts before (x ∷ ws) zero w e at =
    let same : x ≡ w = cc in
    subst (λ (y : Compute). goal_fault concepts (effective_items concepts y.name.text) y ≡ Ok tt) same (second_passes _ _ (second_passes _ _ (first_passes _ _ e)))
compute_at most concepts before (x ∷ ws) (suc k) w e at = compute_at most concepts (before + 1) ws k w (second_passes _ _ e) at

few_from : (most : ℕ) (concepts : List ConceptTree) (before : ℕ) (ws : List Compute) → before ≤ most → computes_fault most concepts before ws ≡ Ok tt → before + length ws ≤ most
few_from most concepts before [] le e = omega arith
few_from most concepts before (x ∷ ws) le e =
    let test : nat_le (before + 1) most ≡ true = test_passes (nat_le (before + 1) most) (broken_at x.name (rule.TooMany limit.Computes)) (first_passes _ _ (first_passes _ _ e)) in
    let rest : (before + 1) + length ws ≤ most = few_from most concepts (before + 1) ws (leb-true (before + 1) most test) (second_passes _ _ e) in omega (arith, rest)

few_all : (most : ℕ) (concepts : List ConceptTree) (ws : List Compute) → computes_fault most concepts 0 ws ≡ Ok tt → length ws ≤ most
few_all most concepts ws e = let few = few_from most concepts 0 ws (omega arith) e in omega (arith, few)

-- ---- the whole file

pub file_follows : (most : ℕ) (f : FileTree) → IsBuilt f → file_fault most f ≡ Ok tt → FileFollows most f
file_follows most f built e =
    let concepts = first_passes _ _ e in
    let computes = second_passes _ _ e in record {
      items = λ name. each_follows [] f.concepts name concepts built;
      goals = λ k w at.
          let goal = subst (λ (items : List ItemTree). goal_fault (reverse f.concepts) items w ≡ Ok tt) (same_items f.concepts w.name.text concepts built) (compute_at most (reverse f.concepts) 0 f.computes k w computes at) in
          let own = own_built f.concepts w.name.text built in
          (paths_known (reverse f.concepts) (items_of f.concepts w.name.text) (given_paths w.givens) own (first_passes _ _ goal), paths_known (reverse f.concepts) (items_of f.concepts w.name.text) w.wants own (second_passes _ _ goal));
      few = few_all most (reverse f.concepts) f.computes computes;
    }
