-- Items that pass their rules fit.
use Rattle.std.proofs.Common.{◌≡◌, ℕ, Bool, true, false, ◌||◌, List, [], ◌∷◌, ◌++◌, Option, Some, None, Ok, refl, sym, ap, ◌∙◌, subst, ⊎_elim, append_assoc, append-nil}
use Rattle.std.specs.Prelude.{if◌then◌else◌, is_some, not, option_and_then, Contains}
use Rattle.std.proofs.lemmas.List.Elements.{Contains-append_left, Contains-append_right, Contains-append_cases}
use Rattle.std.proofs.lemmas.Option.{same_Some}
use Rattle.priz_base.proofs.Members.{contains_here, contains_there, contains_cases, contains_none}
use Rattle.body_lang.proofs.Verdicts.{first_passes, second_passes, test_passes}
use Rattle.utopist_syntax.specs.Named.{Named}
use Rattle.utopist_syntax.specs.declared.item.Bind.{Bind}
use Rattle.utopist_syntax.specs.declared.item.VarKind.{VarKind}
use Rattle.utopist_syntax.specs.declared.item.VarKind.TheVariants.{Numeric, Of}
use Rattle.utopist_syntax.specs.FileTree.{ItemTree, var, eq, rel, ConceptTree}
use Rattle.name_sets.specs.Paths.{texts}
use Rattle.concept_rules.specs.Declarations.{is_among, declared, declaration, is_declared, Variable, variable_of, variable}
use Rattle.concept_rules.specs.Lineage.{concept_names}
use Rattle.concept_rules.specs.Kinds.{kind_along, kind_of_path, is_same_kind}
use Rattle.concept_rules.specs.Overlap.{is_overlapping}
use Rattle.concept_rules.specs.BindRules.{bind_fault, binds_fault, are_other_kinds}
use Rattle.concept_rules.specs.ItemRules.{new_names, known_kind, item_fault}
use Rattle.concept_rules.specs.ConceptRules.{items_fault}
use Rattle.canonical_paths.specs.steps.Fitting.{LeadsToKind, Joins, AllJoin, IsKnownKind, AreOnce, VariablesFit, Fits, AllFit}

right_false : (a b : Bool) → not (a || b) ≡ true → b ≡ false
right_false true b h = absurd (cc)
right_false false true h = absurd (cc)
right_false false false h = refl

once_names : (before : List ItemTree) (others : List (List ℕ)) (ns : List Named) → new_names before others ns ≡ Ok tt → AreOnce others ns
once_names before others [] h = tt
once_names before others (n ∷ ns) h = (
  right_false (is_declared before n.text) (is_among n.text others) (test_passes _ _ (first_passes _ _ h)),
  once_names before (others ++ n.text ∷ []) ns (second_passes _ _ h),
)

known_kind_is : (concepts : List ConceptTree) (kind : VarKind) → known_kind concepts kind ≡ Ok tt → IsKnownKind concepts kind
known_kind_is concepts Numeric h = tt
known_kind_is concepts (Of type) h = test_passes _ _ h

-- an item that is found declares the name
pub record IsFound (items : List ItemTree) (name : List ℕ) (i : ItemTree) : Type 0 where
  pub there : Contains items i
  pub own : is_among name (declared i) ≡ true

pub found_item : (items : List ItemTree) (name : List ℕ) (i : ItemTree) → declaration items name ≡ Some i → IsFound items name i
found_item [] name i h = absurd (cc)
found_item (j ∷ items) name i h = by (is_among name (declared j)) refl (found_item items name i) h
  where
    by : (t : Bool) → is_among name (declared j) ≡ t → (declaration items name ≡ Some i → IsFound items name i) → (if t then Some j else declaration items name) ≡ Some i → IsFound (j ∷ items) name i
    by true e k g =
        let same : j ≡ i = same_Some j i g in
        record { there = subst (Contains (j ∷ items)) same (contains_here j items); own = subst (λ (x : ItemTree). is_among name (declared x) ≡ true) same e }
    by false e k g = let r = k g in record { there = contains_there j items i r.there; own = r.own }

-- a variable that is found
pub record IsVariable (items : List ItemTree) (name : List ℕ) (v : Variable) : Type 0 where
  pub item : ItemTree
  pub found : IsFound items name item
  pub is : variable_of item ≡ Some v

pub found_variable : (items : List ItemTree) (name : List ℕ) (v : Variable) → variable items name ≡ Some v → IsVariable items name v
found_variable items name v h = by (declaration items name) refl h
  where
    by : (o : Option ItemTree) → declaration items name ≡ o → option_and_then variable_of o ≡ Some v → IsVariable items name v
    by None e k = absurd (cc)
    by (Some i) e k = record { item = i; found = found_item items name i e; is = k }

pub leads_to : (concepts : List ConceptTree) (items : List ItemTree) (names : List Named) (kind : VarKind) → kind_of_path concepts items names ≡ Some kind → LeadsToKind concepts items names kind
leads_to concepts items [] kind h = absurd (cc)
leads_to concepts items (s ∷ rest) kind h = by (variable items s.text) refl h
  where
    by : (o : Option Variable) → variable items s.text ≡ o → option_and_then (λ v. kind_along concepts v.kind rest) o ≡ Some kind → LeadsToKind concepts items (s ∷ rest) kind
    by None e k = absurd (cc)
    by (Some v) e k =
        let r = found_variable items s.text v e in
        record { first = s; rest = rest; is = refl; item = r.item; there = r.found.there; own = r.found.own; variable = v; is_variable = r.is; along = k }

some_kind : (o : Option VarKind) → is_some o ≡ true → (k : VarKind) × (o ≡ Some k)
some_kind (Some k) h = (k, refl)
some_kind None h = absurd (cc)

same_kinds : (k m : VarKind) (o p : Option VarKind) → o ≡ Some k → p ≡ Some m → are_other_kinds o p ≡ false → is_same_kind k m ≡ true
same_kinds k m o p e f h = by (is_same_kind k m) (sym (ap (λ (x : Option VarKind). are_other_kinds x p) e ∙ ap (are_other_kinds (Some k)) f) ∙ h)
  where
    by : (t : Bool) → not t ≡ false → t ≡ true
    by true g = refl
    by false g = absurd (cc)

one_joins : (concepts : List ConceptTree) (before : List ItemTree) (kind : VarKind) (bound : List (List (List ℕ))) (b : Bind) → bind_fault concepts before kind bound b ≡ Ok tt → Joins concepts before kind b
one_joins concepts before kind bound b h =
    let rest = second_passes _ _ h in
    let l = some_kind (kind_along concepts kind b.left.parts) (test_passes _ _ (first_passes _ _ h)) in
    let r = some_kind (kind_of_path concepts before b.right.parts) (test_passes _ _ (second_passes _ _ rest)) in
    let fit = right_false (is_overlapping concepts kind bound b.left.parts) (are_other_kinds (kind_along concepts kind b.left.parts) (kind_of_path concepts before b.right.parts)) (test_passes _ _ (first_passes _ _ rest)) in
    record {
      left = l.0;
      right = r.0;
      left_is = l.1;
      right_is = leads_to concepts before b.right.parts r.0 r.1;
      same = same_kinds l.0 r.0 _ _ l.1 r.1 fit;
    }

binds_join : (concepts : List ConceptTree) (before : List ItemTree) (kind : VarKind) (bound : List (List (List ℕ))) (binds : List Bind) → binds_fault concepts before kind bound binds ≡ Ok tt → AllJoin concepts before kind binds
binds_join concepts before kind bound [] h = tt
binds_join concepts before kind bound (b ∷ binds) h =
    (one_joins concepts before kind bound b (first_passes _ _ h), binds_join concepts before kind (bound ++ texts b.left.parts ∷ []) binds (second_passes _ _ h))

item_fits : (concepts : List ConceptTree) (before : List ItemTree) (i : ItemTree) → item_fault concepts before i ≡ Ok tt → Fits concepts before i
item_fits concepts before (var names kind binds) h = record {
  once = once_names before [] names (first_passes _ _ h);
  known = known_kind_is concepts kind (first_passes _ _ (second_passes _ _ h));
  join = binds_join concepts before kind [] binds (second_passes _ _ (second_passes _ _ h));
}
item_fits concepts before (eq left right) h = tt
item_fits concepts before (rel n parts output body) h = tt

pub items_fit : (concepts : List ConceptTree) (before items : List ItemTree) → items_fault concepts before items ≡ Ok tt → AllFit concepts before items
items_fit concepts before [] h = tt
items_fit concepts before (i ∷ items) h =
    (item_fits concepts before i (first_passes _ _ h), items_fit concepts (before ++ i ∷ []) items (second_passes _ _ h))

-- items that are among others
abbrev pub AreAmong : List ItemTree → List ItemTree → Type 0
AreAmong items wide = (i : ItemTree) → Contains items i → Contains wide i

among_more : (before wide : List ItemTree) (i : ItemTree) → AreAmong before wide → AreAmong (before ++ i ∷ []) (wide ++ i ∷ [])
among_more before wide i h j k =
    ⊎_elim (λ g. Contains-append_left wide (i ∷ []) j (h j g)) (λ g. Contains-append_right wide (i ∷ []) j g) (Contains-append_cases before (i ∷ []) j k)

-- how more concepts see types
pub record Extends (concepts more : List ConceptTree) : Type 0 where
  pub kinds :
      (kind : VarKind) (names : List Named) (k : VarKind)
      → kind_along concepts kind names ≡ Some k → kind_along more kind names ≡ Some k
  pub names : (name : List ℕ) → is_among name (concept_names concepts) ≡ true → is_among name (concept_names more) ≡ true

module _ (concepts more : List ConceptTree) (x : Extends concepts more) where
  leads_wide : (before wide : List ItemTree) (names : List Named) (kind : VarKind) → AreAmong before wide → LeadsToKind concepts before names kind → LeadsToKind more wide names kind
  leads_wide before wide names kind h l = record {
    first = l.first;
    rest = l.rest;
    is = l.is;
    item = l.item;
    there = h l.item l.there;
    own = l.own;
    variable = l.variable;
    is_variable = l.is_variable;
    along = x.kinds l.variable.kind l.rest kind l.along;
  }

  join_wide : (before wide : List ItemTree) (kind : VarKind) (binds : List Bind) → AreAmong before wide → AllJoin concepts before kind binds → AllJoin more wide kind binds
  join_wide before wide kind [] h j = tt
  join_wide before wide kind (b ∷ binds) h j = (
    record {
      left = j.0.left;
      right = j.0.right;
      left_is = x.kinds kind b.left.parts j.0.left j.0.left_is;
      right_is = leads_wide before wide b.right.parts j.0.right h j.0.right_is;
      same = j.0.same;
    },
    join_wide before wide kind binds h j.1,
  )

  kind_wide : (kind : VarKind) → IsKnownKind concepts kind → IsKnownKind more kind
  kind_wide Numeric h = tt
  kind_wide (Of type) h = x.names type.text h

  item_wide : (before wide : List ItemTree) (i : ItemTree) → AreAmong before wide → Fits concepts before i → Fits more wide i
  item_wide before wide (var names kind binds) h f = record { once = f.once; known = kind_wide kind f.known; join = join_wide before wide kind binds h f.join }
  item_wide before wide (eq left right) h f = tt
  item_wide before wide (rel n parts output body) h f = tt

  -- items fit behind more, and behind more concepts
  pub fit_wide : (before wide items : List ItemTree) → AreAmong before wide → AllFit concepts before items → AllFit more wide items
  fit_wide before wide [] h f = tt
  fit_wide before wide (i ∷ items) h f =
      (item_wide before wide i h f.0, fit_wide (before ++ i ∷ []) (wide ++ i ∷ []) items (among_more before wide i h) f.1)

pub extends_itself : (concepts : List ConceptTree) → Extends concepts concepts
extends_itself concepts = record { kinds = λ kind names k h. h; names = λ name h. h }

pub fit_append : (concepts : List ConceptTree) (before xs ys : List ItemTree) → AllFit concepts before xs → AllFit concepts (before ++ xs) ys → AllFit concepts before (xs ++ ys)
fit_append concepts before [] ys h k = subst (λ (b : List ItemTree). AllFit concepts b ys) (append-nil before) k
fit_append concepts before (i ∷ xs) ys h k =
    (h.0, fit_append concepts (before ++ i ∷ []) xs ys h.1 (subst (λ (b : List ItemTree). AllFit concepts b ys) (sym (append_assoc before (i ∷ []) xs)) k))

pub fit_behind : (concepts : List ConceptTree) (before xs ys : List ItemTree) → AllFit concepts before (xs ++ ys) → AllFit concepts (before ++ xs) ys
fit_behind concepts before [] ys h = subst (λ (b : List ItemTree). AllFit concepts b ys) (sym (append-nil before)) h
fit_behind concepts before (i ∷ xs) ys h =
    subst (λ (b : List ItemTree). AllFit concepts b ys) (append_assoc before (i ∷ []) xs) (fit_behind concepts (before ++ i ∷ []) xs ys h.1)

pub fit_first : (concepts : List ConceptTree) (before xs ys : List ItemTree) → AllFit concepts before (xs ++ ys) → AllFit concepts before xs
fit_first concepts before [] ys h = tt
fit_first concepts before (i ∷ xs) ys h = (h.0, fit_first concepts (before ++ i ∷ []) xs ys h.1)

-- each of them has a known type
pub known_in : (concepts : List ConceptTree) (before items : List ItemTree) → AllFit concepts before items → (names : List Named) (kind : VarKind) (binds : List Bind) → Contains items (var names kind binds) → IsKnownKind concepts kind
known_in concepts before [] h names kind binds c = absurd (contains_none _ c)
known_in concepts before (i ∷ items) h names kind binds c =
    ⊎_elim
    (λ e. let f : Fits concepts before (var names kind binds) = subst (Fits concepts before) e h.0 in f.known)
    (λ k. known_in concepts (before ++ i ∷ []) items h.1 names kind binds k)
    (contains_cases i items (var names kind binds) c)
