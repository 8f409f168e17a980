-- A walk meets each numeric path of which each beginning is canonical.
use Rattle.std.proofs.Common.{◌≡◌, ℕ, Bool, true, false, ◌||◌, List, [], ◌∷◌, ◌++◌, Option, Some, None, Ok, refl, sym, ap, ◌∙◌, subst, ⊎_elim, append_assoc, Decides}
use Rattle.std.specs.Prelude.{if◌then◌else◌, reverse, option_and_then, Contains}
use Rattle.std.specs.Str.{bytes_eq}
use Rattle.std.specs.Cmp.Lexicographic.{pointwise}
use Rattle.std.specs.List.{flat_map}
use Rattle.std.proofs.lemmas.Bool.{both_ways}
use Rattle.std.proofs.lemmas.Grind.{flat_map-append}
use Rattle.std.proofs.lemmas.List.Elements.{Contains-append_left, Contains-append_right}
use Rattle.std.proofs.lemmas.Option.{same_Some}
use Rattle.std.proofs.lemmas.Slice.Eq.{slice_eq-Decides, bytes_eq-Decides}
use Rattle.priz_base.proofs.Members.{contains_here, contains_there, contains_cases, contains_none}
use Rattle.utopist_syntax.specs.Named.{Named}
use Rattle.utopist_syntax.specs.declared.item.VarKind.{VarKind}
use Rattle.utopist_syntax.specs.declared.item.VarKind.TheVariants.{Numeric, Of}
use Rattle.utopist_syntax.specs.FileTree.{ItemTree, var, eq, rel, ConceptTree}
use Rattle.name_sets.specs.Paths.{texts}
use Rattle.concept_rules.specs.Declarations.{is_among, declared, Variable, variable_of, variable}
use Rattle.concept_rules.specs.Kinds.{kind_along}
use Rattle.concept_rules.specs.Lineage.{effective_items}
use Rattle.concept_rules.specs.ConceptRules.{concepts_fault}
use Rattle.canonical_paths.specs.PathNames.{PathNames}
use Rattle.canonical_paths.specs.Canonical.{canonical_path}
use Rattle.canonical_paths.specs.Scoped.{ConceptsAreScoped}
use Rattle.canonical_paths.specs.steps.Fitting.{ConceptsFit, AreNamedOnce, AreSound}
use Rattle.canonical_paths.proofs.FittingItems.{found_variable}
use Rattle.canonical_paths.proofs.FittingConcepts.{kept_are_fitted}
use Rattle.canonical_paths.proofs.CheckedConcepts.{kept_are_scoped}
use Rattle.canonical_paths.proofs.CanonicalAgain.{canonical_again}
use Rattle.canonical_paths.proofs.Beginnings.{canonical_begins}
use Rattle.concept_walk.specs.Visits as Visits
use Rattle.concept_walk.specs.Visits.{Visit, variable_visits, item_visits, visits, walk, visited_variable, visited_variables}
use Rattle.concept_walk.proofs.VisitsAgain.{visits_again}
use Rattle.concept_walk.proofs.PathTypes.{type_of_path, same_types}
use Rattle.concept_walk.proofs.NumericPaths.{canonical_numeric}

-- a variable that is met at one of some elements is met at them all
brings : {X : Type 0} (f : X → List Visit) (xs : List X) (x : X) (p : PathNames) → Contains xs x → Contains (visited_variables (f x)) p → Contains (visited_variables (flat_map f xs)) p
brings f [] x p there h = absurd (contains_none x there)
brings {X} f (y ∷ xs) x p there h =
    subst (λ (ps : List PathNames). Contains ps p) (sym (flat_map-append visited_variable (f y) (flat_map f xs)))
    (⊎_elim
    (λ e. Contains-append_left (visited_variables (f y)) (visited_variables (flat_map f xs)) p (subst (λ (z : X). Contains (visited_variables (f z)) p) (sym e) h))
    (λ k. Contains-append_right (visited_variables (f y)) (visited_variables (flat_map f xs)) p (brings f xs x p k h))
    (contains_cases y xs x there))

-- a name with a text that is among those of these names
record IsNamedSo (names : List Named) (text : List ℕ) : Type 0 where
  name : Named
  there : Contains names name
  same : name.text ≡ text

named_so : (names : List Named) (text : List ℕ) → is_among text (texts names) ≡ true → IsNamedSo names text
named_so [] text h = absurd (both_ways (is_among text (texts [])) refl h)
named_so (n ∷ names) text h = by (bytes_eq text n.text) refl (named_so names text)
  where
    by : (t : Bool) → bytes_eq text n.text ≡ t → (is_among text (texts names) ≡ true → IsNamedSo names text) → IsNamedSo (n ∷ names) text
    by true e rec = record { name = n; there = contains_here n names; same = sym ((bytes_eq-Decides text n.text).0 e) }
    by false e rec =
        let r = rec (sym (ap (λ (t : Bool). t || is_among text (texts names)) e) ∙ h) in
        record { name = r.name; there = contains_there n names r.name r.there; same = r.same }

-- a path each of whose beginnings is canonical
module _ (is_canonical : PathNames → Bool) (whole : PathNames) (canonical_at : (b more : PathNames) → b ++ more ≡ whole → is_canonical b ≡ true) where
  module _ (inside : List ℕ → PathNames → List Visit) (at : PathNames) (s : List ℕ) where
    -- the path through this variable is canonical
    variable_is : (rest : PathNames) → at ++ s ∷ rest ≡ whole → is_canonical (at ++ s ∷ []) ≡ true
    variable_is rest are = canonical_at (at ++ s ∷ []) rest (append_assoc at (s ∷ []) rest ∙ are)

    module _ (concepts : List ConceptTree) where
      -- what is numeric inside of types is met inside of the variable
      abbrev MeetsBehind : PathNames → Type 0
      MeetsBehind rest =
          (type : Named) → type_of_path concepts (Of type) rest ≡ Some Numeric → Contains (visited_variables (inside type.text (at ++ s ∷ []))) whole

      -- a path is met at its variable
      meets_variable :
          (kind : VarKind) (rest : PathNames) → at ++ s ∷ rest ≡ whole
          → type_of_path concepts kind rest ≡ Some Numeric → MeetsBehind rest
          → Contains (visited_variables (variable_visits inside is_canonical kind (at ++ s ∷ []))) whole
      meets_variable Numeric [] are h deeper =
          subst (λ (t : Bool). Contains (visited_variables (if t then Visits.variable (at ++ s ∷ []) ∷ [] else [])) whole) (sym (variable_is [] are))
          (subst (Contains ((at ++ s ∷ []) ∷ [])) are (contains_here (at ++ s ∷ []) []))
      meets_variable Numeric (m ∷ rest) are h deeper = absurd (cc)
      meets_variable (Of type) rest are h deeper =
          subst (λ (t : Bool). Contains (visited_variables (if t then inside type.text (at ++ s ∷ []) else [])) whole) (sym (variable_is rest are))
          (deeper type h)

      -- and at the item of that
      meets_item :
          (i : ItemTree) (v : Variable) (rest : PathNames) → at ++ s ∷ rest ≡ whole
          → variable_of i ≡ Some v → is_among s (declared i) ≡ true
          → type_of_path concepts v.kind rest ≡ Some Numeric → MeetsBehind rest
          → Contains (visited_variables (item_visits inside is_canonical at i)) whole
      meets_item (var names kind binds) v rest are is own h deeper =
          let same : record { kind = kind; binds = binds } ≡ v = same_Some (record { kind = kind; binds = binds }) v is in
          let n = named_so names s own in
          brings (λ (m : Named). variable_visits inside is_canonical kind (at ++ m.text ∷ [])) names n.name whole n.there
          (subst (λ (text : List ℕ). Contains (visited_variables (variable_visits inside is_canonical kind (at ++ text ∷ []))) whole) (sym n.same)
          (meets_variable kind rest are (subst (λ (u : Variable). type_of_path concepts u.kind rest ≡ Some Numeric) (sym same) h) deeper))
      meets_item (eq left right) v rest are is own h deeper = absurd (cc)
      meets_item (rel n parts output body) v rest are is own h deeper = absurd (cc)

  module _ (concepts : List ConceptTree) (once : AreNamedOnce concepts) (fit : ConceptsFit concepts) where
    -- and in the component of which it is a numeric path
    meets :
        (type : Named) (at p : PathNames) → at ++ p ≡ whole
        → type_of_path concepts (Of type) p ≡ Some Numeric
        → Contains (visited_variables (visits concepts is_canonical type.text at)) whole
    meets type at [] are h = absurd (cc)
    meets type at (s ∷ rest) are h =
        subst (λ (vs : List Visit). Contains (visited_variables vs) whole) (sym (visits_again is_canonical concepts once fit type.text at))
        (by (variable (effective_items concepts type.text) s) refl h (λ t g. meets t (at ++ s ∷ []) rest (append_assoc at (s ∷ []) rest ∙ are) g))
      where
        by : (o : Option Variable) → variable (effective_items concepts type.text) s ≡ o → option_and_then (λ v. type_of_path concepts v.kind rest) o ≡ Some Numeric → MeetsBehind (visits concepts is_canonical) at s concepts rest → Contains (visited_variables (flat_map (item_visits (visits concepts is_canonical) is_canonical at) (effective_items concepts type.text))) whole
        by None e g deeper = absurd (cc)
        by (Some v) e g deeper =
            let r = found_variable (effective_items concepts type.text) s v e in
            brings (item_visits (visits concepts is_canonical) is_canonical at) (effective_items concepts type.text) r.item whole r.found.there
            (meets_item (visits concepts is_canonical) at s concepts r.item v rest are r.is r.found.own g deeper)

same_names : (p q : PathNames) → Decides (pointwise bytes_eq p q) (p ≡ q)
same_names p q = slice_eq-Decides bytes_eq-Decides p q (pointwise bytes_eq p q) refl

-- in a file that keeps the rules, the canonical path of a numeric path is met
pub known_walked :
    (concepts : List ConceptTree) → concepts_fault [] concepts ≡ Ok tt
    → (type : Named) (names : List Named)
    → kind_along (reverse concepts) (Of type) names ≡ Some Numeric
    → Contains (visited_variables (walk (reverse concepts) type.text))
    (canonical_path (reverse concepts) type.text (texts names))
known_walked concepts kept type names h =
    meets (λ p. pointwise bytes_eq (canonical_path all type.text p) p) whole is_canonical all sound.once sound.fit type [] whole refl
    (canonical_numeric all sound scoped type (texts names) (same_types all (Of type) names ∙ h))
  where
    all : List ConceptTree
    all = reverse concepts

    whole : PathNames
    whole = canonical_path all type.text (texts names)

    sound : AreSound all
    sound = (kept_are_fitted concepts kept).sound

    scoped : ConceptsAreScoped all
    scoped = kept_are_scoped concepts kept

    is_canonical : (b more : PathNames) → b ++ more ≡ whole → pointwise bytes_eq (canonical_path all type.text b) b ≡ true
    is_canonical b more e =
        let again : canonical_path all type.text whole ≡ whole = canonical_again all scoped type.text (texts names) in
        let own : canonical_path all type.text (b ++ more) ≡ b ++ more = ap (canonical_path all type.text) e ∙ again ∙ sym e in
        (same_names (canonical_path all type.text b) b).1 (canonical_begins all scoped type.text b more own)
