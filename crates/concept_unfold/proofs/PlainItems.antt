-- Where the rules of concepts hold of items of the forms that are built, the items follow.
use Rattle.std.proofs.Common.{◌≡◌, ℕ, Bool, true, false, not, ◌||◌, List, [], ◌∷◌, ◌++◌, length, map, Option, Some, None, Ok, refl, sym, ap, ◌∙◌, subst, append_assoc, inl, inr, ⊎_elim}
use Rattle.std.specs.Prelude.{◌⊎◌, if◌then◌else◌, Contains, All, is_some, option_and_then}
use Rattle.std.proofs.lemmas.List.{append-nil}
use Rattle.std.proofs.lemmas.List.Elements.{All-nil, All-cons, All-head, All-tail, All-push, Contains-append_cases, Contains-append_left, Contains-append_right}
use Rattle.priz_base.proofs.Members.{contains_none}
use Rattle.body_lang.proofs.Verdicts.{first_passes, second_passes, test_passes}
use Rattle.utopist_syntax.specs.Named.{Named}
use Rattle.utopist_syntax.specs.ExprTree.{ExprTree}
use Rattle.utopist_syntax.specs.declared.path.Path.{Path}
use Rattle.utopist_syntax.specs.declared.item.VarKind.{VarKind}
use Rattle.utopist_syntax.specs.declared.item.VarKind.TheVariants.{Numeric}
use Rattle.utopist_syntax.specs.declared.item.Part.{Part}
use Rattle.utopist_syntax.specs.declared.item.Part.TheVariants.{Input, Subtask}
use Rattle.utopist_syntax.specs.FileTree.{ItemTree, var, eq, rel, ConceptTree}
use Rattle.concept_rules.specs.declared.fault.Rule.TheVariants as rule
use Rattle.name_sets.specs.Paths.{texts}
use Rattle.concept_rules.specs.Paths.{first_of}
use Rattle.concept_rules.specs.Declarations.{is_among, declared, is_declared, declaration, Variable, variable, variable_of}
use Rattle.concept_rules.specs.Kinds.{kind_along}
use Rattle.concept_rules.specs.PathRules.{broken_at, numeric_kind, numeric_path}
use Rattle.concept_rules.specs.ItemRules.{new_name, new_names, parts_fault, spelled_inputs, arities_of, body_fault, item_fault}
use Rattle.concept_rules.specs.ConceptRules.{items_fault}
use Rattle.concept_rules.proofs.Among.{among, listed}
use Rattle.concept_unfold.specs.Built.{IsBuiltItem}
use Rattle.concept_unfold.specs.Declarations.{variables, all_variables}
use Rattle.concept_unfold.specs.Paths.{first_name, IsOneOf, inputs_of, input_names}
use Rattle.concept_unfold.specs.Unfolded.{AreKnown}
use Rattle.concept_unfold.specs.steps.Plain.{AreFresh, HasNoFault, ItemFollows, ItemsFollow}

-- ---- variables among items

-- the first of these items declares the name, or one behind it
first_or : (i : ItemTree) (items : List ItemTree) (name : List ℕ) (b : Bool) → (b ≡ true ⊎ (is_declared items name ≡ true)) → is_some (if b then Some i else declaration items name) ≡ true
first_or i items name true h = refl
first_or i items name false h = ⊎_elim (λ e. absurd (cc)) (λ e. e) h

own_name : (i : ItemTree) (name : List ℕ) → Contains (variables i) name → is_among name (declared i) ≡ true
own_name (var ns kind binds) name c = among name (texts ns) c
own_name (eq left right) name c = absurd (contains_none name c)
own_name (rel n parts output body) name c = absurd (contains_none name c)

-- a variable is declared
pub variable_declared : (items : List ItemTree) (name : List ℕ) → Contains (all_variables items) name → is_declared items name ≡ true
variable_declared [] name c = absurd (contains_none name c)
variable_declared (i ∷ items) name c =
    first_or i items name (is_among name (declared i)) (⊎_elim (λ h. inl (own_name i name h)) (λ h. inr (variable_declared items name h)) (Contains-append_cases (variables i) (all_variables items) name c))

variable_here : (i : ItemTree) (name : List ℕ) (v : Variable) → IsBuiltItem i → is_among name (declared i) ≡ true → variable_of i ≡ Some v → (v.kind ≡ Numeric) × Contains (variables i) name
variable_here (var ns kind binds) name v built t e =
    let same : ◌≡◌ {A = Variable} (record { kind = kind; binds = binds }) v = cc in
    (sym (ap (λ (x : Variable). x.kind) same) ∙ built.0, listed name (texts ns) t)
variable_here (eq left right) name v built t e = absurd (cc)
variable_here (rel n parts output body) name v built t e = absurd (cc)

variable_step : (i : ItemTree) (items : List ItemTree) (name : List ℕ) (v : Variable) (b : Bool) → is_among name (declared i) ≡ b → IsBuiltItem i
    → option_and_then variable_of (if b then Some i else declaration items name) ≡ Some v
    → (option_and_then variable_of (declaration items name) ≡ Some v → (v.kind ≡ Numeric) × Contains (all_variables items) name)
    → (v.kind ≡ Numeric) × Contains (all_variables (i ∷ items)) name
variable_step i items name v true t built e rest =
    let here = variable_here i name v built t e in (here.0, Contains-append_left (variables i) (all_variables items) name here.1)
variable_step i items name v false t built e rest =
    let later = rest e in (later.0, Contains-append_right (variables i) (all_variables items) name later.1)

-- what is known among built items is numeric, and one of their variables
pub variable_known : (items : List ItemTree) (name : List ℕ) (v : Variable) → All IsBuiltItem items → variable items name ≡ Some v → (v.kind ≡ Numeric) × Contains (all_variables items) name
variable_known [] name v built e = absurd (cc)
variable_known (i ∷ items) name v built e =
    variable_step i items name v (is_among name (declared i)) refl (All-head IsBuiltItem i items built) e (variable_known items name v (All-tail IsBuiltItem i items built))

-- ---- paths

-- a path of one name, which is one of these
abbrev OneName : List (List ℕ) → List Named → Type 0
OneName vars names = (n : Named) × (names ≡ n ∷ []) × Contains vars n.text

along_numeric : (earlier : List ConceptTree) (vars : List (List ℕ)) (s : Named) (rest : List Named) → Contains vars s.text → numeric_kind (s ∷ rest) (kind_along earlier Numeric rest) ≡ Ok tt → OneName vars (s ∷ rest)
along_numeric earlier vars s [] c e = (s, refl, c)
along_numeric earlier vars s (r ∷ rest) c e = absurd (cc)

path_at : (earlier : List ConceptTree) (items : List ItemTree) (s : Named) (rest : List Named) (o : Option Variable) → variable items s.text ≡ o → All IsBuiltItem items
    → numeric_kind (s ∷ rest) (option_and_then (λ v. kind_along earlier v.kind rest) o) ≡ Ok tt → OneName (all_variables items) (s ∷ rest)
path_at earlier items s rest None is built e = absurd (cc)
path_at earlier items s rest (Some v) is built e =
    let known = variable_known items s.text v built is in
    along_numeric earlier (all_variables items) s rest known.1 (subst (λ (k : VarKind). numeric_kind (s ∷ rest) (kind_along earlier k rest) ≡ Ok tt) known.0 e)

one_name : (earlier : List ConceptTree) (items : List ItemTree) (names : List Named) → All IsBuiltItem items → numeric_path earlier items names ≡ Ok tt → OneName (all_variables items) names
one_name earlier items [] built e = absurd (cc)
one_name earlier items (s ∷ rest) built e = path_at earlier items s rest (variable items s.text) refl built e

-- a numeric path among built items is one of their variables
pub path_known : (earlier : List ConceptTree) (items : List ItemTree) (p : Path) → All IsBuiltItem items → numeric_path earlier items p.parts ≡ Ok tt → IsOneOf (all_variables items) p
path_known earlier items p built e =
    let one = one_name earlier items p.parts built e in record {
      single = ap length one.1;
      listed = subst (λ (ns : List Named). Contains (all_variables items) (first_of ns).text) (sym one.1) one.2;
    }

-- ---- names

no_truth : (b : Bool) → b ≡ true → not b ≡ true → ⊥
no_truth true e d = cc
no_truth false e d = cc

or_left : (a b : Bool) → a ≡ true → (a || b) ≡ true
or_left true b e = refl
or_left false b e = absurd (cc)

or_right : (a b : Bool) → b ≡ true → (a || b) ≡ true
or_right true b e = refl
or_right false b e = e

name_fresh : (before : List ItemTree) (others : List (List ℕ)) (n : Named) → new_name before others n ≡ Ok tt → ¬ Contains (all_variables before ++ others) n.text
name_fresh before others n e c =
    let test = test_passes (not (is_declared before n.text || is_among n.text others)) (broken_at n rule.DuplicateName) e in
    no_truth (is_declared before n.text || is_among n.text others)
    (⊎_elim (λ h. or_left (is_declared before n.text) (is_among n.text others) (variable_declared before n.text h)) (λ h. or_right (is_declared before n.text) (is_among n.text others) (among n.text others h)) (Contains-append_cases (all_variables before) others n.text c)) test

names_fresh : (before : List ItemTree) (others : List (List ℕ)) (ns : List Named) → new_names before others ns ≡ Ok tt → AreFresh (all_variables before ++ others) ns
names_fresh before others [] e = tt
names_fresh before others (n ∷ ns) e = (
  name_fresh before others n (first_passes _ _ e),
  subst (λ (vars : List (List ℕ)). AreFresh vars ns) (sym (append_assoc (all_variables before) others (n.text ∷ []))) (names_fresh before (others ++ n.text ∷ []) ns (second_passes _ _ e)),
)

-- ---- relations

parts_known : (earlier : List ConceptTree) (before : List ItemTree) (parts : List Part) → All IsBuiltItem before → parts_fault earlier before parts ≡ Ok tt → AreKnown (all_variables before) (inputs_of parts)
parts_known earlier before [] built e = All-nil (IsOneOf (all_variables before))
parts_known earlier before (Input p ∷ parts) built e =
    All-cons (IsOneOf (all_variables before)) p (inputs_of parts) (path_known earlier before p built (first_passes _ _ e)) (parts_known earlier before parts built (second_passes _ _ e))
parts_known earlier before (Subtask inputs outputs ∷ parts) built e = parts_known earlier before parts built (second_passes _ _ e)

one_text : (ns : List Named) → length ns ≡ 1 → texts ns ≡ (first_of ns).text ∷ []
one_text [] e = absurd (cc)
one_text (n ∷ []) e = refl
one_text (n ∷ m ∷ ns) e = absurd (cc)

spelled_singly : (vars : List (List ℕ)) (parts : List Part) → AreKnown vars (inputs_of parts) → spelled_inputs parts ≡ map (λ n. n ∷ []) (input_names parts)
spelled_singly vars [] known = refl
spelled_singly vars (Input p ∷ parts) known =
    let own = All-head (IsOneOf vars) p (inputs_of parts) known in
    ap (λ (t : List (List ℕ)). t ∷ spelled_inputs parts) (one_text p.parts own.single)
    ∙ ap (λ (rest : List (List (List ℕ))). ((first_name p).text ∷ []) ∷ rest) (spelled_singly vars parts (All-tail (IsOneOf vars) p (inputs_of parts) known))
spelled_singly vars (Subtask inputs outputs ∷ parts) known = spelled_singly vars parts known

body_free : (vars : List (List ℕ)) (items : List ItemTree) (parts : List Part) (body : Option ExprTree) → AreKnown vars (inputs_of parts) → body_fault items parts body ≡ Ok tt → HasNoFault (input_names parts) body
body_free vars items parts None known e = tt
body_free vars items parts (Some b) known e =
    (record { items = items; around = []; inputs = spelled_inputs parts; arities = arities_of parts; rounds = [] }, spelled_singly vars parts known, refl, e)

-- ---- items

item_follows : (earlier : List ConceptTree) (before : List ItemTree) (i : ItemTree) → All IsBuiltItem before → item_fault earlier before i ≡ Ok tt → ItemFollows (all_variables before) i
item_follows earlier before (var ns kind binds) built e = subst (λ (vars : List (List ℕ)). AreFresh vars ns) (append-nil (all_variables before)) (names_fresh before [] ns (first_passes _ _ e))
item_follows earlier before (eq left right) built e = tt
item_follows earlier before (rel n parts output body) built e =
    let after_name = second_passes _ _ e in
    let after_parts = second_passes _ _ after_name in
    let known = parts_known earlier before parts built (first_passes _ _ after_name) in
    (known, path_known earlier before output built (first_passes _ _ after_parts), body_free (all_variables before) (before ++ rel n parts output body ∷ []) parts body known (second_passes _ _ after_parts))

more_variables : (before : List ItemTree) (i : ItemTree) → all_variables (before ++ i ∷ []) ≡ all_variables before ++ variables i
more_variables [] i = append-nil (variables i)
more_variables (b ∷ before) i = ap (λ (rest : List (List ℕ)). variables b ++ rest) (more_variables before i) ∙ sym (append_assoc (variables b) (all_variables before) (variables i))

-- items of which no rule fails follow one another
pub items_follow : (earlier : List ConceptTree) (before items : List ItemTree) → All IsBuiltItem before → All IsBuiltItem items → items_fault earlier before items ≡ Ok tt → ItemsFollow (all_variables before) items
items_follow earlier before [] built more e = tt
items_follow earlier before (i ∷ items) built more e = (
  item_follows earlier before i built (first_passes _ _ e),
  subst (λ (vars : List (List ℕ)). ItemsFollow vars items) (more_variables before i)
      (items_follow earlier (before ++ i ∷ []) items (All-push IsBuiltItem before i built (All-head IsBuiltItem i items more)) (All-tail IsBuiltItem i items more) (second_passes _ _ e)),
)
