-- The effective items of concepts that pass their rules fit.
use Rattle.std.proofs.Common.{◌≡◌, ℕ, Bool, true, false, ◌||◌, List, [], ◌∷◌, ◌++◌, Option, Some, None, Ok, refl, sym, ap, ◌∙◌, subst, ⊎_elim, append_assoc, append-nil}
use Rattle.std.specs.Prelude.{if◌then◌else◌, not, fold, reverse, Contains, option_and_then}
use Rattle.std.specs.Str.{bytes_eq}
use Rattle.std.proofs.lemmas.Bool.{both_ways, or_right, false_from_ne_true}
use Rattle.std.proofs.lemmas.Grind.{flat_map-append}
use Rattle.std.proofs.lemmas.List.{reverse-append}
use Rattle.std.proofs.lemmas.List.Elements.{Contains-append_left, Contains-append_right, Contains-append_cases}
use Rattle.std.proofs.lemmas.Slice.Eq.{bytes_eq-Decides}
use Rattle.priz_base.proofs.Members.{contains_here, contains_there, contains_cases, contains_none}
use Rattle.body_lang.proofs.Verdicts.{first_passes, second_passes, test_passes}
use Rattle.utopist_syntax.specs.Named.{Named}
use Rattle.utopist_syntax.specs.declared.item.VarKind.{VarKind}
use Rattle.utopist_syntax.specs.declared.item.VarKind.TheVariants.{Numeric, Of}
use Rattle.utopist_syntax.specs.FileTree.{ItemTree, ConceptTree, FileTree}
use Rattle.concept_rules.specs.Declarations.{is_among, Variable, variable}
use Rattle.concept_rules.specs.Kinds.{variable_in, kind_along}
use Rattle.concept_rules.specs.Lineage.{concept_names, take_concept, take_parent, lineage, all_items, effective_items, ancestors}
use Rattle.concept_rules.specs.ConceptRules.{concept_fault, concepts_fault, file_fault}
use Rattle.canonical_paths.specs.Canonical.{items_behind}
use Rattle.canonical_paths.specs.steps.Fitting.{AllFit, ConceptsFit, AreNamedOnce, AreSound}
use Rattle.canonical_paths.proofs.CheckedConcepts.{AreUnique, AreWithin, has_name, one_more, take_within, line_within, lineage_within, unique_more}
use Rattle.canonical_paths.proofs.FittingItems.{AreAmong, Extends, extends_itself, fit_wide, fit_append, fit_behind, fit_first, items_fit}

-- the concept of this name is none of the others
module _ (c : ConceptTree) (earlier : List ConceptTree) (fresh : is_among c.name.text (concept_names earlier) ≡ false) where
  pub is_other : (name : List ℕ) → is_among name (concept_names earlier) ≡ true → bytes_eq c.name.text name ≡ false
  is_other name h =
      false_from_ne_true (bytes_eq c.name.text name)
      (λ e. both_ways (is_among c.name.text (concept_names earlier)) fresh (subst (λ (n : List ℕ). is_among n (concept_names earlier) ≡ true) (sym ((bytes_eq-Decides c.name.text name).0 e)) h))

  pub same_lineage : (name : List ℕ) → is_among name (concept_names earlier) ≡ true → lineage (c ∷ earlier) name ≡ lineage earlier name
  same_lineage name h = ap (λ (t : Bool). if t then ancestors earlier c.parents ++ c ∷ [] else lineage earlier name) (is_other name h)

-- an unknown name has no lineage
pub no_lineage : (concepts : List ConceptTree) (name : List ℕ) → is_among name (concept_names concepts) ≡ false → lineage concepts name ≡ []
no_lineage [] name h = refl
no_lineage (c ∷ earlier) name h = by (bytes_eq c.name.text name) refl (is_among name (concept_names earlier)) refl (no_lineage earlier name)
  where
    by : (t : Bool) → bytes_eq c.name.text name ≡ t → (u : Bool) → is_among name (concept_names earlier) ≡ u → (is_among name (concept_names earlier) ≡ false → lineage earlier name ≡ []) → (if t then ancestors earlier c.parents ++ c ∷ [] else lineage earlier name) ≡ []
    by true e u f k =
        let own : bytes_eq name c.name.text ≡ true = (bytes_eq-Decides name c.name.text).1 (sym ((bytes_eq-Decides c.name.text name).0 e)) in
        absurd (both_ways (is_among name (concept_names (c ∷ earlier))) h (ap (λ (t : Bool). t || is_among name (concept_names earlier)) own))
    by false e true f k = absurd (both_ways (is_among name (concept_names (c ∷ earlier))) h (or_right (bytes_eq name c.name.text) (is_among name (concept_names earlier)) f))
    by false e false f k = k f

module _ (c : ConceptTree) (earlier : List ConceptTree) (fresh : is_among c.name.text (concept_names earlier) ≡ false) where
  variable_stays : (kind : VarKind) (name : List ℕ) (v : Variable) → variable_in earlier kind name ≡ Some v → variable_in (c ∷ earlier) kind name ≡ Some v
  variable_stays Numeric name v h = absurd (cc)
  variable_stays (Of type) name v h = by (is_among type.text (concept_names earlier)) refl
    where
      by : (t : Bool) → is_among type.text (concept_names earlier) ≡ t → variable_in (c ∷ earlier) (Of type) name ≡ Some v
      by true e = subst (λ (cs : List ConceptTree). variable (all_items cs) name ≡ Some v) (sym (same_lineage c earlier fresh type.text e)) h
      by false e =
          let none = subst (λ (cs : List ConceptTree). variable (all_items cs) name ≡ Some v) (no_lineage earlier type.text e) h in
          absurd (cc)

  kinds_stay : (kind : VarKind) (names : List Named) (k : VarKind) → kind_along earlier kind names ≡ Some k → kind_along (c ∷ earlier) kind names ≡ Some k
  kinds_stay kind [] k h = h
  kinds_stay kind (s ∷ rest) k h = by (variable_in earlier kind s.text) refl h (λ v. kinds_stay v.kind rest k)
    where
      by : (o : Option Variable) → variable_in earlier kind s.text ≡ o → option_and_then (λ v. kind_along earlier v.kind rest) o ≡ Some k → ((v : Variable) → kind_along earlier v.kind rest ≡ Some k → kind_along (c ∷ earlier) v.kind rest ≡ Some k) → kind_along (c ∷ earlier) kind (s ∷ rest) ≡ Some k
      by None e g rec = absurd (cc)
      by (Some v) e g rec = ap (option_and_then (λ (u : Variable). kind_along (c ∷ earlier) u.kind rest)) (variable_stays kind s.text v e) ∙ rec v g

  pub extends_one : Extends earlier (c ∷ earlier)
  extends_one = record {
    kinds = kinds_stay;
    names = λ name h. or_right (bytes_eq name c.name.text) (is_among name (concept_names earlier)) h;
  }

in_all_items : (cs : List ConceptTree) (c : ConceptTree) → Contains cs c → AreAmong c.items (all_items cs)
in_all_items [] c h i k = absurd (contains_none c h)
in_all_items (d ∷ cs) c h i k =
    ⊎_elim
    (λ e. Contains-append_left d.items (all_items cs) i (subst (λ (x : ConceptTree). Contains x.items i) (sym e) k))
    (λ g. Contains-append_right d.items (all_items cs) i (in_all_items cs c g i k))
    (contains_cases d cs c h)

module _ (all : List ConceptTree) (unique : AreUnique all) where
  -- what is taken fits, and has the items of the line so far
  record IsTaken (taken before : List ConceptTree) : Type 0 where
    fit : AllFit all [] (all_items taken)
    has : AreAmong (all_items before) (all_items taken)

  has_one : (before wide : List ConceptTree) (c : ConceptTree) → AreAmong (all_items before) (all_items wide) → AreAmong c.items (all_items wide) → AreAmong (all_items (before ++ c ∷ [])) (all_items wide)
  has_one before wide c h k i g =
      ⊎_elim (h i) (k i) (Contains-append_cases (all_items before) c.items i (subst (λ (is : List ItemTree). Contains is i) (one_more before c) g))

  take_one : (taken before : List ConceptTree) (c : ConceptTree) → IsTaken taken before → AreWithin taken all → Contains all c → AllFit all (all_items before) c.items → IsTaken (take_concept taken c) (before ++ c ∷ [])
  take_one taken before c h w k s = by (is_among c.name.text (concept_names taken)) refl
    where
      by : (t : Bool) → is_among c.name.text (concept_names taken) ≡ t → IsTaken (if t then taken else taken ++ c ∷ []) (before ++ c ∷ [])
      by true e =
          let r = has_name taken c.name.text e in
          let same : c ≡ r.concept = unique c r.concept k (w r.concept r.there) r.same in
          record { fit = h.fit; has = has_one before taken c h.has (in_all_items taken c (subst (Contains taken) (sym same) r.there)) }
      by false e =
          let wide : (i : ItemTree) → Contains (all_items taken) i → Contains (all_items (taken ++ c ∷ [])) i = λ i g. subst (λ (is : List ItemTree). Contains is i) (sym (one_more taken c)) (Contains-append_left (all_items taken) c.items i g) in
          record {
            fit = subst (AllFit all []) (sym (one_more taken c)) (fit_append all [] (all_items taken) c.items h.fit (fit_wide all all (extends_itself all) (all_items before) (all_items taken) c.items h.has s));
            has =
                has_one before (taken ++ c ∷ []) c (λ i g. wide i (h.has i g))
                (λ i g. subst (λ (is : List ItemTree). Contains is i) (sym (one_more taken c)) (Contains-append_right (all_items taken) c.items i g));
          }

  take_line : (taken before line : List ConceptTree) → IsTaken taken before → AreWithin taken all → AreWithin line all → AllFit all [] (all_items (before ++ line)) → AllFit all [] (all_items (fold take_concept taken line))
  take_line taken before [] h w l s = h.fit
  take_line taken before (c ∷ line) h w l s =
      let there = l c (contains_here c line) in
      let split : AllFit all (all_items before) (c.items ++ all_items line) = fit_behind all [] (all_items before) (c.items ++ all_items line) (subst (AllFit all []) (flat_map-append (λ (d : ConceptTree). d.items) before (c ∷ line)) s) in
      take_line (take_concept taken c) (before ++ c ∷ []) line
      (take_one taken before c h w there (fit_first all (all_items before) c.items (all_items line) split))
      (take_within all taken c w there)
      (λ a k. l a (contains_there c line a k))
      (subst (λ (cs : List ConceptTree). AllFit all [] (all_items cs)) (sym (append_assoc before (c ∷ []) line)) s)

  take_parents : ((name : List ℕ) → AllFit all [] (all_items (lineage all name))) → (taken : List ConceptTree) (ps : List Named) → AllFit all [] (all_items taken) → AreWithin taken all → AllFit all [] (all_items (fold (take_parent (lineage all)) taken ps))
  take_parents known taken [] s w = s
  take_parents known taken (p ∷ ps) s w =
      take_parents known (take_parent (lineage all) taken p) ps
      (take_line taken [] (lineage all p.text) (record { fit = s; has = λ i g. absurd (contains_none i g) }) w (lineage_within all p.text) (known p.text))
      (line_within all taken (lineage all p.text) w (lineage_within all p.text))

-- what is known of concepts that passed
pub record AreFitted (all : List ConceptTree) : Type 0 where
  pub unique : AreUnique all
  pub known : (name : List ℕ) → AllFit all [] (effective_items all name)
  pub sound : AreSound all

one_fitted : (all : List ConceptTree) (c : ConceptTree) → AreFitted all → concept_fault all c ≡ Ok tt → AreFitted (c ∷ all)
one_fitted all c h ok =
    let fresh = not_taken (is_among c.name.text (concept_names all)) (test_passes _ _ (second_passes _ _ (first_passes _ _ ok))) in
    let items = second_passes _ _ (second_passes _ _ ok) in
    let inherited = take_parents all h.unique h.known [] c.parents tt (λ a k. absurd (contains_none a k)) in
    let whole : AllFit all [] (all_items (ancestors all c.parents ++ c ∷ [])) =
    subst (AllFit all []) (sym (one_more (ancestors all c.parents) c))
    (fit_append all [] (all_items (ancestors all c.parents)) c.items inherited (items_fit all (all_items (ancestors all c.parents)) c.items items)) in
    let wide : (items : List ItemTree) → AllFit all [] items → AllFit (c ∷ all) [] items = λ is f. fit_wide all (c ∷ all) (extends_one c all fresh) [] [] is (λ i k. k) f in
    let own = (bytes_eq-Decides c.name.text c.name.text).1 refl in
    record {
      unique = unique_more all c h.unique fresh;
      known = λ n. wide (effective_items (c ∷ all) n) (by n (bytes_eq c.name.text n) whole (h.known n));
      sound = record { once = (fresh, h.sound.once); fit = (by c.name.text (bytes_eq c.name.text c.name.text) whole (h.known c.name.text), h.sound.fit) };
    }
  where
    not_taken : (t : Bool) → not t ≡ true → t ≡ false
    not_taken true e = absurd (cc)
    not_taken false e = refl

    by : (n : List ℕ) (t : Bool) → AllFit all [] (all_items (ancestors all c.parents ++ c ∷ [])) → AllFit all [] (all_items (lineage all n)) → AllFit all [] (all_items (if t then ancestors all c.parents ++ c ∷ [] else lineage all n))
    by n true w k = w
    by n false w k = k

pub all_fitted : (before cs : List ConceptTree) → AreFitted before → concepts_fault before cs ≡ Ok tt → AreFitted (reverse cs ++ before)
all_fitted before [] h ok = h
all_fitted before (c ∷ cs) h ok =
    let e : reverse cs ++ c ∷ before ≡ reverse (c ∷ cs) ++ before = sym (append_assoc (reverse cs) (c ∷ []) before) ∙ ap (λ (ds : List ConceptTree). ds ++ before) (sym (reverse-append (c ∷ []) cs)) in
    subst AreFitted e (all_fitted (c ∷ before) cs (one_fitted before c h (first_passes _ _ ok)) (second_passes _ _ ok))

pub none_fitted : AreFitted []
none_fitted = record { unique = λ a b k. absurd (contains_none a k); known = λ name. tt; sound = record { once = tt; fit = tt } }

-- the concepts of a file that keeps the rules
pub kept_are_fitted : (cs : List ConceptTree) → concepts_fault [] cs ≡ Ok tt → AreFitted (reverse cs)
kept_are_fitted cs ok = subst AreFitted (append-nil (reverse cs)) (all_fitted [] cs none_fitted ok)
