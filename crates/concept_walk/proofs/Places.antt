-- A variable of a component, by the number of its path.
use Rattle.std.proofs.Common.{◌≡◌, ℕ, zero, suc, ◌<◌, ◌≤◌, ◌+◌, ◌*◌, Bool, true, false, List, [], ◌∷◌, ◌++◌, Option, Some, None, map, length, get_or, Decides, refl, sym, ap, ◌∙◌, subst, append_assoc, append-nil, arith}
use Rattle.std.specs.Prelude.{if◌then◌else◌, Contains, IsSome, slice_get, slice_index_or, option_map, option_and_then, reverse}
use Rattle.std.specs.Str.{bytes_eq}
use Rattle.std.specs.Cmp.Lexicographic.{pointwise}
use Rattle.std.proofs.lemmas.Bool.{false_from_ne_true}
use Rattle.std.proofs.lemmas.Slice.Eq.{slice_eq-Decides, bytes_eq-Decides}
use Rattle.std.proofs.lemmas.List.{length-map, map-append}
use Rattle.std.proofs.lemmas.Option.{slice_get_within, slice_get-map, slice_get-get_or, same_Some}
use Rattle.utopist_syntax.specs.Named.{Named}
use Rattle.utopist_syntax.specs.declared.item.VarKind.{VarKind}
use Rattle.utopist_syntax.specs.declared.item.VarKind.TheVariants.{Numeric, Of}
use Rattle.utopist_syntax.specs.FileTree.{ConceptTree, concept_tree}
use Rattle.concept_rules.specs.Declarations.{Variable, variable}
use Rattle.concept_rules.specs.Kinds.{variable_in, kind_along}
use Rattle.concept_rules.specs.Lineage.{effective_items}
use Rattle.concept_rules.specs.steps.Extent.{no_concept}
use Rattle.canonical_paths.specs.declared.slot.Slot.{Slot}
use Rattle.canonical_paths.specs.Limits.{max_declared}
use Rattle.canonical_paths.specs.PathNames.{PathNames}
use Rattle.canonical_paths.specs.Components.{effective_in, declared_in, canonical_in, HasComponent}
use Rattle.canonical_paths.specs.DeclaredPaths.{paths_in_kind, declared_paths}
use Rattle.canonical_paths.proofs.FittingItems.{found_variable}
use Rattle.canonical_paths.specs.Tables.{IsTable}
use Rattle.canonical_paths.specs.Layouts.{ForEachReached, IsFoundAt, IsReachedConcept, IsTypeNumber}
use Rattle.canonical_paths.proofs.DistinctPaths.{declared_differ}
use Rattle.concept_walk.specs.Visits as Visits
use Rattle.concept_walk.specs.declared.walk.Walk.{Walk}
use Rattle.concept_walk.specs.Walks.{IsWalk, IsPathTo, IsPlace, concepts_of, concept_in, items_in, paths_in}
use Rattle.concept_walk.specs.steps.Bringing.{IsVariable, is_canonical, inside, component_visits, visits_of}

-- along one path and then another
pub along-append : (concepts : List ConceptTree) (kind : VarKind) (xs ys : List Named) → kind_along concepts kind (xs ++ ys) ≡ option_and_then (λ k. kind_along concepts k ys) (kind_along concepts kind xs)
along-append concepts kind [] ys = refl
along-append concepts kind (x ∷ xs) ys = by (variable_in concepts kind x.text) (λ k. along-append concepts k xs ys)
  where
    by : (o : Option Variable) → ((k : VarKind) → kind_along concepts k (xs ++ ys) ≡ option_and_then (λ j. kind_along concepts j ys) (kind_along concepts k xs)) → option_and_then (λ (v : Variable). kind_along concepts v.kind (xs ++ ys)) o ≡ option_and_then (λ j. kind_along concepts j ys) (option_and_then (λ (v : Variable). kind_along concepts v.kind xs) o)
    by None rec = refl
    by (Some v) rec = rec v.kind

same_names : (p q : PathNames) → Decides (pointwise bytes_eq p q) (p ≡ q)
same_names p q = slice_eq-Decides bytes_eq-Decides p q (pointwise bytes_eq p q) refl

pub concept_there : (w : Walk) (n : ℕ) → n < length w.concepts.now → slice_get (concepts_of w) n ≡ Some (concept_in w n)
concept_there w n lt =
    let e = length-map w.concepts.now concept_tree in
    slice_get-get_or (concepts_of w) n no_concept (omega (arith, e, lt))

-- a variable of this name is found in the concept of this number
abbrev pub Finds : Walk → ℕ → List ℕ → Option Slot → Type 0
Finds w n name r =
    ForEachReached w.layouts.now n
    (λ all reached c. (v : Variable)
    → variable (effective_in all c) name ≡ Some v → IsFoundAt all reached c (name ∷ []) v.kind r)

pub is_found :
    (w : Walk) (n start : ℕ) (at : PathNames) → IsPlace w n start at → (kind : VarKind)
    (name : List ℕ) → IsVariable w n kind name → (r : Option Slot) → Finds w n name r → IsSome r
is_found w n start at place kind name own r found =
    let f = found (concepts_of w) w.asked place.laid (concept_in w n) place.reached (concept_there w n place.known) own.own own.is in
    subst IsSome (sym f.is) refl

module _ (w : Walk) (h : IsWalk w) where
  pub number_is_small : (number : ℕ) (p : PathNames) → slice_get (paths_in w w.asked) number ≡ Some p → number < 8192
  number_is_small number p at =
      let a = slice_get_within (paths_in w w.asked) number p at in
      let few = h.few (concept_in w w.asked) (concept_there w w.asked h.asked) in
      omega (arith, a, few)

  -- the entries of the table
  module _ (table : List ℕ) (is : IsTable (canonical_in (concepts_of w) (concept_in w w.asked)) (paths_in w w.asked) table) where
    table_size : length table ≡ length (paths_in w w.asked)
    table_size =
        sym (length-map table (slice_get (paths_in w w.asked)))
        ∙ ap length is ∙ length-map (paths_in w w.asked) (λ p. Some (canonical_in (concepts_of w) (concept_in w w.asked) p))

    module _ (number : ℕ) (p : PathNames) (at : slice_get (paths_in w w.asked) number ≡ Some p) where
      pub number_in_table : number < length table
      number_in_table = let a = slice_get_within (paths_in w w.asked) number p at in let b = table_size in omega (arith, a, b)

      pub entry : slice_get (paths_in w w.asked) (slice_index_or table number 0) ≡ Some (canonical_in (concepts_of w) (concept_in w w.asked) p)
      entry =
          let left = slice_get-map (slice_get (paths_in w w.asked)) table number ∙ ap (option_map (slice_get (paths_in w w.asked))) (slice_get-get_or table number 0 number_in_table) in
          let right = slice_get-map (λ q. Some (canonical_in (concepts_of w) (concept_in w w.asked) q)) (paths_in w w.asked) number ∙ ap (option_map (λ q. Some (canonical_in (concepts_of w) (concept_in w w.asked) q))) at in
          same_Some _ _ (sym left ∙ ap (λ os. slice_get os number) is ∙ right)

      pub own_entry : slice_index_or table number 0 ≡ number → is_canonical w p ≡ true
      own_entry e =
          let same : canonical_in (concepts_of w) (concept_in w w.asked) p ≡ p = same_Some _ _ (sym entry ∙ ap (slice_get (paths_in w w.asked)) e ∙ at) in
          (same_names (canonical_in (concepts_of w) (concept_in w w.asked) p) p).1 same

      pub other_entry : (slice_index_or table number 0 ≡ number → ⊥) → is_canonical w p ≡ false
      other_entry other =
          false_from_ne_true (is_canonical w p)
          (λ t. other (declared_differ (concepts_of w) h.kept (concept_in w w.asked).name.text (slice_index_or table number 0) number p (entry ∙ ap Some ((same_names (canonical_in (concepts_of w) (concept_in w w.asked) p) p).0 t)) at))

  module _ (n start : ℕ) (at : PathNames) (place : IsPlace w n start at) (kind : VarKind) (name : List ℕ) (own : IsVariable w n kind name) (slot : Slot)
      (found : Finds w n name (Some slot))
    where
      abbrev pub found_at : IsFoundAt (concepts_of w) place.laid.reached (concept_in w n) (name ∷ []) own.own.kind (Some slot)
      found_at = found (concepts_of w) w.asked place.laid (concept_in w n) place.reached (concept_there w n place.known) own.own own.is

      same_slot : found_at.slot ≡ slot
      same_slot = same_Some _ _ (sym found_at.is)

      pub its_number : slice_get (paths_in w w.asked) (start + slot.at) ≡ Some (at ++ name ∷ [])
      its_number =
          let e = ap (λ (x : Slot). x.at) same_slot in
          let k : slot.at ≡ found_at.slot.at + 0 = omega (arith, e) in
          place.stand slot.at (name ∷ []) (ap (slice_get (paths_in w n)) k ∙ found_at.block.each 0 [] refl)

      -- a component has a concept
      pub has_concept : (type : Named) → kind ≡ Of type → IsSome slot.concept
      has_concept type e =
          by slot.concept (subst (λ (x : Slot). IsTypeNumber (concepts_of w) place.laid.reached own.own.kind x.concept) same_slot found_at.number)
        where
          by : (o : Option ℕ) → IsTypeNumber (concepts_of w) place.laid.reached own.own.kind o → IsSome o
          by (Some m) g = refl
          by None g = absurd (subst (λ (k : VarKind). IsTypeNumber (concepts_of w) place.laid.reached k None) (own.type ∙ e) g)

      module _ (type : Named) (component : kind ≡ Of type) (m : ℕ) (its : slot.concept ≡ Some m) where
        its_concept : IsReachedConcept (concepts_of w) place.laid.reached m type.text
        its_concept =
            subst (λ (k : VarKind). IsTypeNumber (concepts_of w) place.laid.reached k (Some m)) (own.type ∙ component)
            (subst (λ (o : Option ℕ). IsTypeNumber (concepts_of w) place.laid.reached own.own.kind o) its
            (subst (λ (x : Slot). IsTypeNumber (concepts_of w) place.laid.reached own.own.kind x.concept) same_slot found_at.number))

        known_inside : m < length w.concepts.now
        known_inside =
            let a = slice_get_within (concepts_of w) m its_concept.named.concept its_concept.named.is in
            let e = length-map w.concepts.now concept_tree in
            omega (arith, a, e)

        -- its concept has the name of the type
        pub name_inside : (concept_in w m).name.text ≡ type.text
        name_inside =
            ap (λ (c : ConceptTree). c.name.text) (same_Some _ _ (sym (concept_there w m known_inside) ∙ its_concept.named.is))
            ∙ its_concept.named.named

        leads_inside : IsPathTo w (at ++ name ∷ []) m
        leads_inside = record {
          names = place.leads.names ++ named ∷ [];
          are = map-append (λ (x : Named). x.text) place.leads.names (named ∷ []) ∙ ap (λ (ns : PathNames). ns ++ name ∷ []) place.leads.are;
          type = type;
          leads =
              along-append (reverse (concepts_of w)) (Of (concept_in w w.asked).name) place.leads.names (named ∷ [])
              ∙ ap (λ o. option_and_then (λ k. kind_along (reverse (concepts_of w)) k (named ∷ [])) o) place.leads.leads
              ∙ ap (λ t. option_and_then (λ (v : Variable). Some v.kind) (variable (effective_items (reverse (concepts_of w)) t) name)) place.leads.named
              ∙ ap (λ o. option_and_then (λ (v : Variable). Some v.kind) o) own.is
              ∙ ap Some (own.type ∙ component);
          named = sym name_inside;
        }
          where
            named : Named
            named = record { text = name; place = type.place }

        paths_inside : paths_in w m ≡ paths_in_kind (declared_paths (reverse (concepts_of w))) own.own.kind
        paths_inside =
            ap (declared_paths (reverse (concepts_of w))) name_inside
            ∙ sym (ap (paths_in_kind (declared_paths (reverse (concepts_of w)))) (own.type ∙ component))

        pub place_inside : IsPlace w m (start + slot.at + 1) (at ++ name ∷ [])
        place_inside = record {
          laid = place.laid;
          reached = its_concept.among;
          known = known_inside;
          leads = leads_inside;
          stand = λ k q g.
              let e = ap (λ (x : Slot). x.at) same_slot in
              let sum : start + slot.at + 1 + k ≡ start + (found_at.slot.at + suc k) = omega (arith, e) in
              ap (slice_get (paths_in w w.asked)) sum
              ∙ place.stand (found_at.slot.at + suc k) (name ∷ q)
              (found_at.block.each (suc k) q (ap (λ ps. slice_get ps k) (sym paths_inside) ∙ g))
              ∙ ap Some (sym (append_assoc at (name ∷ []) q));
        }

        component_of : HasComponent (concepts_of w) n m
        component_of =
            let v = found_variable (items_in w n) name own.own own.is in
            record {
              concept = concept_in w n;
              is = concept_there w n place.known;
              item = v.item;
              there = v.found.there;
              type = type.text;
              declares = record { name = name; own = v.found.own; variable = own.own; is = v.is; of = type; kind = own.type ∙ component; named = refl };
              number = its_concept.named;
            }

        -- which stands before it
        pub smaller : m < n
        smaller = place.laid.earlier n m place.reached component_of

-- what a variable that isn't canonical is met at
pub not_met :
    (w : Walk) (at : PathNames) (kind : VarKind) (n : Named)
    → is_canonical w (at ++ n.text ∷ []) ≡ false → visits_of w at kind (n ∷ []) ≡ []
not_met w at Numeric n e = ap (λ (b : Bool). (if b then Visits.variable (at ++ n.text ∷ []) ∷ [] else []) ++ []) e
not_met w at (Of type) n e = ap (λ (b : Bool). (if b then inside w type.text (at ++ n.text ∷ []) else []) ++ []) e

-- a numeric one that is canonical
pub variable_met :
    (w : Walk) (at : PathNames) (kind : VarKind) (n : Named)
    → is_canonical w (at ++ n.text ∷ []) ≡ true → kind ≡ Numeric
    → visits_of w at kind (n ∷ []) ≡ Visits.variable (at ++ n.text ∷ []) ∷ []
variable_met w at kind n e k =
    ap (λ (t : VarKind). visits_of w at t (n ∷ [])) k
    ∙ ap (λ (b : Bool). (if b then Visits.variable (at ++ n.text ∷ []) ∷ [] else []) ++ []) e

-- and a component that is
pub component_met :
    (w : Walk) (at : PathNames) (kind : VarKind) (n : Named) (type : Named) (m : ℕ)
    → is_canonical w (at ++ n.text ∷ []) ≡ true → kind ≡ Of type
    → (concept_in w m).name.text ≡ type.text
    → visits_of w at kind (n ∷ []) ≡ component_visits w m (at ++ n.text ∷ [])
component_met w at kind n type m e k same =
    ap (λ (t : VarKind). visits_of w at t (n ∷ [])) k
    ∙ ap (λ (b : Bool). (if b then inside w type.text (at ++ n.text ∷ []) else []) ++ []) e
    ∙ append-nil (inside w type.text (at ++ n.text ∷ []))
    ∙ ap (λ t. inside w t (at ++ n.text ∷ [])) (sym same)
