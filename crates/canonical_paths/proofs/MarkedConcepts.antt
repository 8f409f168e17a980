-- What is marked, and what is reached.
use Rattle.std.proofs.Common.{◌≡◌, ℕ, zero, suc, ◌+◌, ◌<◌, ◌≤◌, Bool, true, false, List, [], ◌∷◌, ◌++◌, ◌⊎◌, inl, inr, Option, Some, None, Ok, map, length, get_or, set, refl, sym, ap, ◌∙◌, subst, ⊎_elim, length-append, arith}
use Rattle.std.specs.Prelude.{◌==◌, reverse, slice_get, slice_set, Contains, All}
use Rattle.std.specs.List.{flat_map}
use Rattle.std.specs.Option.{option_map_or}
use Rattle.std.specs.Str.{bytes_eq}
use Rattle.std.proofs.lemmas.Bool.{both_ways, or_left}
use Rattle.std.proofs.lemmas.Slice.Eq.{bytes_eq-Decides}
use Rattle.std.proofs.lemmas.List.{length-map}
use Rattle.std.proofs.lemmas.List.Elements.{Contains-append_left, Contains-append_right, Contains-append_cases}
use Rattle.std.proofs.lemmas.Option.{slice_get_within, slice_get-get_or, same_Some, none-some}
use Rattle.priz_base.proofs.Members.{contains_here, contains_there, contains_cases, contains_none}
use Rattle.utopist_syntax.specs.Named.{Named}
use Rattle.utopist_syntax.specs.declared.item.Bind.{Bind}
use Rattle.utopist_syntax.specs.declared.item.VarKind.{VarKind}
use Rattle.utopist_syntax.specs.declared.item.VarKind.TheVariants.{Numeric, Of}
use Rattle.utopist_syntax.specs.FileTree.{ItemTree, var, eq, rel, ConceptTree}
use Rattle.name_sets.specs.Paths.{texts}
use Rattle.concept_rules.specs.Declarations.{is_among, declared, Variable, variable_of}
use Rattle.concept_rules.specs.Lineage.{concept_names, all_items}
use Rattle.concept_rules.specs.Lineages.{Lines, AreLineages}
use Rattle.concept_rules.specs.Lineage.{lineage}
use Rattle.concept_rules.specs.ConceptRules.{concepts_fault}
use Rattle.canonical_paths.specs.PathNames.{PathNames}
use Rattle.canonical_paths.specs.Canonical.{items_behind}
use Rattle.canonical_paths.specs.DeclaredPaths.{paths_in_kind, variable_paths, item_paths, declared_paths}
use Rattle.canonical_paths.specs.Limits.{max_declared}
use Rattle.canonical_paths.specs.Components.{effective_in, declared_in, HasFewPaths, IsNamed, DeclaresComponent, HasComponent}
use Rattle.canonical_paths.specs.steps.Fitting.{IsKnownKind, AllFit}
use Rattle.canonical_paths.specs.steps.Settings.{items_of_line}
use Rattle.canonical_paths.specs.steps.Marks.{marked_from, marked, IsMarked, DeclareComponent, IsTypeOf, MarksMore, IsOnlyMark, AreMarkedFrom}
use Rattle.canonical_paths.proofs.Elements.{heads, tails, there}
use Rattle.canonical_paths.proofs.FittingItems.{known_in}
use Rattle.canonical_paths.proofs.KnownPaths.{declared_again}
use Rattle.canonical_paths.proofs.ConceptNumbers.{Standing, standing, fitted, sound_here, items_here, stands_earlier, names_stand_once, names_number, is_named}
use Rattle.canonical_paths.proofs.WholeConcepts.{closed}

pub some_there : (n : ℕ) → (n == 0) ≡ false → 0 < n
some_there zero e = absurd (cc)
some_there (suc n) e = omega arith

-- a mark that an index reads
pub mark_is : (marks : List Bool) (n : ℕ) (d : Bool) → n < length marks → get_or marks n d ≡ true → IsMarked marks n
mark_is marks n d w e = slice_get-get_or marks n d w ∙ ap (λ (b : Bool). Some b) e

pub mark_isnt : (marks : List Bool) (n : ℕ) (d : Bool) → n < length marks → get_or marks n d ≡ false → IsMarked marks n → ⊥
mark_isnt marks n d w e h = let f = same_Some true (get_or marks n d) (sym h ∙ slice_get-get_or marks n d w) in let g : true ≡ false = f ∙ e in cc

-- marks by their numbers
pub marked_here : (marks : List Bool) (n k : ℕ) → IsMarked marks k → Contains (marked_from n marks) (n + k)
marked_here [] n k h = absurd (none-some true h)
marked_here (true ∷ marks) n zero h = let e : n ≡ n + 0 = omega arith in subst (Contains (n ∷ marked_from (suc n) marks)) e (contains_here n (marked_from (suc n) marks))
marked_here (true ∷ marks) n (suc k) h =
    let e : suc n + k ≡ n + suc k = omega arith in
    contains_there n (marked_from (suc n) marks) (n + suc k) (subst (Contains (marked_from (suc n) marks)) e (marked_here marks (suc n) k h))
marked_here (false ∷ marks) n zero h = absurd (cc)
marked_here (false ∷ marks) n (suc k) h =
    let e : suc n + k ≡ n + suc k = omega arith in
    subst (Contains (marked_from (suc n) marks)) e (marked_here marks (suc n) k h)

marked_there : (marks : List Bool) (n m : ℕ) → Contains (marked_from n marks) m → (k : ℕ) × ((m ≡ n + k) × IsMarked marks k)
marked_there [] n m h = absurd (contains_none m h)
marked_there (true ∷ marks) n m h =
    ⊎_elim
    (λ e. (0, (omega (arith, e), refl)))
    (λ k. let r = marked_there marks (suc n) m k in (suc r.0, (omega (arith, r.1.0), r.1.1)))
    (contains_cases n (marked_from (suc n) marks) m h)
marked_there (false ∷ marks) n m h = let r = marked_there marks (suc n) m h in (suc r.0, (omega (arith, r.1.0), r.1.1))

pub is_among_marked : (marks : List Bool) (n : ℕ) → IsMarked marks n → Contains (marked marks) n
is_among_marked marks n h = let e : 0 + n ≡ n = omega arith in subst (Contains (marked marks)) e (marked_here marks 0 n h)

pub is_marked : (marks : List Bool) (n : ℕ) → Contains (marked marks) n → IsMarked marks n
is_marked marks n h =
    let r = marked_there marks 0 n h in
    let e : r.0 ≡ n = omega (arith, r.1.0) in
    subst (IsMarked marks) e r.1.1

-- nothing more is marked
pub marks_nothing : (P : ℕ → Type 0) (marks : List Bool) → ((n : ℕ) → n < length marks → P n → ⊥) → MarksMore P marks marks
marks_nothing P marks none = record { count = refl; keeps = λ n h. h; marks = λ n w h. absurd (none n w h); only = λ n h. inl h }

-- this much more, and then that
pub marks_both : (P Q R : ℕ → Type 0) (old mid new : List Bool) → ((n : ℕ) → R n → P n ⊎ Q n) → ((n : ℕ) → P n → R n) → ((n : ℕ) → Q n → R n) → MarksMore P old mid → MarksMore Q mid new → MarksMore R old new
marks_both P Q R old mid new split first second a b = record {
  count = b.count ∙ a.count;
  keeps = λ n h. b.keeps n (a.keeps n h);
  marks = λ n w h. ⊎_elim (λ p. b.keeps n (a.marks n w p)) (λ q. b.marks n (omega (arith, w, a.count)) q) (split n h);
  only = λ n h. ⊎_elim (λ m. ⊎_elim (λ o. inl o) (λ p. inr (first n p)) (a.only n m)) (λ q. inr (second n q)) (b.only n h);
}

-- what is marked is said in other words
pub marks_so : (P Q : ℕ → Type 0) (old new : List Bool) → ((n : ℕ) → P n → Q n) → ((n : ℕ) → Q n → P n) → MarksMore P old new → MarksMore Q old new
marks_so P Q old new to from h = record {
  count = h.count;
  keeps = h.keeps;
  marks = λ n w q. h.marks n w (from n q);
  only = λ n m. ⊎_elim (λ o. inl o) (λ p. inr (to n p)) (h.only n m);
}

-- the types of more items
type_either : (names : List (List ℕ)) (xs ys : List ItemTree) (n : ℕ) → IsTypeOf names (xs ++ ys) n → IsTypeOf names xs n ⊎ IsTypeOf names ys n
type_either names xs ys n h =
    ⊎_elim
    (λ k. inl (record { type = h.type; is = h.is; declare = record { item = h.declare.item; there = k; declares = h.declare.declares } }))
    (λ k. inr (record { type = h.type; is = h.is; declare = record { item = h.declare.item; there = k; declares = h.declare.declares } }))
    (Contains-append_cases xs ys h.declare.item h.declare.there)

type_left : (names : List (List ℕ)) (xs ys : List ItemTree) (n : ℕ) → IsTypeOf names xs n → IsTypeOf names (xs ++ ys) n
type_left names xs ys n h = record { type = h.type; is = h.is; declare = record { item = h.declare.item; there = Contains-append_left xs ys h.declare.item h.declare.there; declares = h.declare.declares } }

type_right : (names : List (List ℕ)) (xs ys : List ItemTree) (n : ℕ) → IsTypeOf names ys n → IsTypeOf names (xs ++ ys) n
type_right names xs ys n h = record { type = h.type; is = h.is; declare = record { item = h.declare.item; there = Contains-append_right xs ys h.declare.item h.declare.there; declares = h.declare.declares } }

pub marks_items : (names : List (List ℕ)) (xs ys : List ItemTree) (old mid new : List Bool) → MarksMore (IsTypeOf names xs) old mid → MarksMore (IsTypeOf names ys) mid new → MarksMore (IsTypeOf names (xs ++ ys)) old new
marks_items names xs ys old mid new =
    marks_both (IsTypeOf names xs) (IsTypeOf names ys) (IsTypeOf names (xs ++ ys)) old mid new
    (type_either names xs ys) (type_left names xs ys) (type_right names xs ys)

pub marks_no_items : (names : List (List ℕ)) (marks : List Bool) → MarksMore (IsTypeOf names []) marks marks
marks_no_items names marks = marks_nothing (IsTypeOf names []) marks (λ n w h. contains_none h.declare.item h.declare.there)

-- an item without components
no_component : (names : List (List ℕ)) (i : ItemTree) (marks : List Bool) → ((type : List ℕ) → DeclaresComponent i type → ⊥) → MarksMore (IsTypeOf names (i ∷ [])) marks marks
no_component names i marks none =
    marks_nothing (IsTypeOf names (i ∷ [])) marks
    (λ n w h.
    ⊎_elim
    (λ e. none h.type (subst (λ (j : ItemTree). DeclaresComponent j h.type) (sym e) h.declare.declares))
    (λ k. contains_none h.declare.item k)
    (contains_cases i [] h.declare.item h.declare.there))

variable_in_it : (names : List Named) (kind : VarKind) (binds : List Bind) (type : List ℕ) → (d : DeclaresComponent (var names kind binds) type) → kind ≡ Of d.of
variable_in_it names kind binds type d =
    ap (λ (v : Variable). v.kind) (same_Some (record { kind = kind; binds = binds }) d.variable d.is) ∙ d.kind

pub equation_marks : (names : List (List ℕ)) (i : ItemTree) (marks : List Bool) → variable_of i ≡ None → MarksMore (IsTypeOf names (i ∷ [])) marks marks
equation_marks names i marks none = no_component names i marks (λ type d. let e : None ≡ Some d.variable = sym none ∙ d.is in absurd (cc))

pub numbers_mark : (names : List (List ℕ)) (variables : List Named) (binds : List Bind) (marks : List Bool) → MarksMore (IsTypeOf names (var variables Numeric binds ∷ [])) marks marks
numbers_mark names variables binds marks =
    no_component names (var variables Numeric binds) marks
    (λ type d. let e : Numeric ≡ Of d.of = variable_in_it variables Numeric binds type d in absurd (cc))

pub nameless_mark : (names : List (List ℕ)) (kind : VarKind) (binds : List Bind) (marks : List Bool) → MarksMore (IsTypeOf names (var [] kind binds ∷ [])) marks marks
nameless_mark names kind binds marks = no_component names (var [] kind binds) marks (λ type d. both_ways (is_among d.name (texts [])) refl d.own)

own_first : (n : Named) (ns : List Named) → is_among n.text (texts (n ∷ ns)) ≡ true
own_first n ns = or_left (bytes_eq n.text n.text) (is_among n.text (texts ns)) ((bytes_eq-Decides n.text n.text).1 refl)

pub components_mark : (names : List (List ℕ)) (variables : List Named) (type : Named) (binds : List Bind) (old new : List Bool) → 0 < length variables → MarksMore (λ n. slice_get names n ≡ Some type.text) old new → MarksMore (IsTypeOf names (var variables (Of type) binds ∷ [])) old new
components_mark names [] type binds old new some h = absurd (omega arith)
components_mark names (v ∷ variables) type binds old new some h =
    let i : ItemTree = var (v ∷ variables) (Of type) binds in
    let d : DeclaresComponent i type.text = record {
      name = v.text;
      own = own_first v variables;
      variable = record { kind = Of type; binds = binds };
      is = refl;
      of = type;
      kind = refl;
      named = refl;
    } in
    marks_so (λ n. slice_get names n ≡ Some type.text) (IsTypeOf names (i ∷ [])) old new
    (λ n e. record { type = type.text; is = e; declare = record { item = i; there = contains_here i []; declares = d } })
    (λ n t. t.is ∙ ap (λ (m : List ℕ). Some m) (same_type t.declare.item t.type t.declare.there t.declare.declares))
    h
  where
    same_of : (o : Named) (t : List ℕ) → Of type ≡ Of o → o.text ≡ t → t ≡ type.text
    same_of o t e f = sym f ∙ sym (ap text e)
      where
        text : VarKind → List ℕ
        text Numeric = []
        text (Of n) = n.text

    same_type : (j : ItemTree) (t : List ℕ) → Contains (var (v ∷ variables) (Of type) binds ∷ []) j → DeclaresComponent j t → t ≡ type.text
    same_type j t k d =
        ⊎_elim
        (λ e.
        let c : DeclaresComponent (var (v ∷ variables) (Of type) binds) t = subst (λ (x : ItemTree). DeclaresComponent x t) (sym e) d in
        same_of c.of t (variable_in_it (v ∷ variables) (Of type) binds t c) c.named)
        (λ g. absurd (contains_none j g))
        (contains_cases (var (v ∷ variables) (Of type) binds) [] j k)

-- one mark is set
set_here : (marks : List Bool) (k n : ℕ) → IsMarked (set marks k true) n → IsMarked marks n ⊎ (n ≡ k)
set_here [] k n h = inl h
set_here (b ∷ marks) zero zero h = inr refl
set_here (b ∷ marks) zero (suc n) h = inl h
set_here (b ∷ marks) (suc k) zero h = inl h
set_here (b ∷ marks) (suc k) (suc n) h = ⊎_elim (λ o. inl o) (λ e. inr (ap suc e)) (set_here marks k n h)

set_keeps : (marks : List Bool) (k n : ℕ) → IsMarked marks n → IsMarked (set marks k true) n
set_keeps [] k n h = h
set_keeps (b ∷ marks) zero zero h = refl
set_keeps (b ∷ marks) zero (suc n) h = h
set_keeps (b ∷ marks) (suc k) zero h = h
set_keeps (b ∷ marks) (suc k) (suc n) h = set_keeps marks k n h

set_marks : (marks : List Bool) (k : ℕ) → k < length marks → IsMarked (set marks k true) k
set_marks [] k w = absurd (omega (arith, w))
set_marks (b ∷ marks) zero w = refl
set_marks (b ∷ marks) (suc k) w = set_marks marks k (omega (arith, w))

set_length : (marks : List Bool) (k : ℕ) → length (set marks k true) ≡ length marks
set_length [] k = refl
set_length (b ∷ marks) zero = refl
set_length (b ∷ marks) (suc k) = ap suc (set_length marks k)

pub marks_number : (names : List (List ℕ)) (name : List ℕ) (k : ℕ) (old : List Bool) → ((n m : ℕ) → slice_get names n ≡ Some name → slice_get names m ≡ Some name → n ≡ m) → slice_get names k ≡ Some name → k < length old → MarksMore (λ n. slice_get names n ≡ Some name) old (set old k true)
marks_number names name k old once is within = record {
  count = set_length old k;
  keeps = λ n h. set_keeps old k n h;
  marks = λ n w e. subst (IsMarked (set old k true)) (once k n is e) (set_marks old k within);
  only = λ n h. ⊎_elim (λ o. inl o) (λ e. inr (subst (λ (m : ℕ). slice_get names m ≡ Some name) (sym e) is)) (set_here old k n h);
}

-- the items of a line are those that the concept has
line_items : (all : List ConceptTree) (line : List ℕ) (cs : List ConceptTree) → map (slice_get all) line ≡ map (λ c. Some c) cs → items_of_line all line ≡ all_items cs
line_items all [] [] e = refl
line_items all [] (c ∷ cs) e = absurd (cc)
line_items all (n ∷ line) [] e = absurd (cc)
line_items all (n ∷ line) (c ∷ cs) e =
    let first = heads (slice_get all n) (Some c) (map (slice_get all) line) (map (λ d. Some d) cs) e in
    ap (λ (is : List ItemTree). is ++ items_of_line all line) (ap (λ (o : Option ConceptTree). option_map_or (λ d. d.items) o []) first)
    ∙ ap (λ (is : List ItemTree). c.items ++ is) (line_items all line cs (tails (slice_get all n) (Some c) (map (slice_get all) line) (map (λ d. Some d) cs) e))

pub line_is_whole : (all : List ConceptTree) (l : Lines) (n : ℕ) (c : ConceptTree) (line : List ℕ) → AreLineages all l → slice_get all n ≡ Some c → slice_get l.lines n ≡ Some line → items_of_line all line ≡ effective_in all c
line_is_whole all l n c line h hc hl = line_items all line (lineage (reverse all) c.name.text) (h.lines n c line hc hl)

pub line_is_within : (all : List ConceptTree) (l : Lines) (n : ℕ) (line : List ℕ) → AreLineages all l → n < length all → slice_get l.lines n ≡ Some line → All (λ (k : ℕ). k < length all) line
line_is_within all l n line h within hl =
    let c = there all n within in
    closed all (λ (d : ConceptTree). d) line (lineage (reverse all) c.0.name.text) (h.lines n c.0 line c.1 hl)

-- the type of a component is a concept before
pub type_known : (concepts : List ConceptTree) (items : List ItemTree) → AllFit concepts [] items → (i : ItemTree) → Contains items i → (type : List ℕ) → DeclaresComponent i type → is_among type (concept_names concepts) ≡ true
type_known concepts items fit (var names kind binds) there type d =
    let known : IsKnownKind concepts (Of d.of) = subst (IsKnownKind concepts) (variable_in_it names kind binds type d) (known_in concepts [] items fit names kind binds there) in
    subst (λ (t : List ℕ). is_among t (concept_names concepts) ≡ true) d.named known
type_known concepts items fit (eq left right) there type d = let e : None ≡ Some d.variable = d.is in absurd (cc)
type_known concepts items fit (rel n parts output body) there type d = let e : None ≡ Some d.variable = d.is in absurd (cc)

-- how many paths there are in a part
one_of_them : {X : Type 0} (f : X → List PathNames) (xs : List X) (x : X) → Contains xs x → length (f x) ≤ length (flat_map f xs)
one_of_them f [] x h = absurd (contains_none x h)
one_of_them {X} f (y ∷ xs) x h =
    let all = length-append (f y) (flat_map f xs) in
    ⊎_elim
    (λ e. let same : length (f y) ≡ length (f x) = ap (λ (z : X). length (f z)) e in omega (arith, all, same))
    (λ k. let r = one_of_them f xs x k in omega (arith, all, r))
    (contains_cases y xs x h)

inside_fits : (inside : List ℕ → List PathNames) (i : ItemTree) (type : List ℕ) → DeclaresComponent i type → length (inside type) ≤ length (item_paths inside i)
inside_fits inside (var [] kind binds) type d = absurd (both_ways (is_among d.name (texts [])) refl d.own)
inside_fits inside (var (n ∷ names) kind binds) type d =
    let f : Named → List PathNames = λ m. variable_paths (paths_in_kind inside kind) m.text in
    let all = length-append (f n) (flat_map f names) in
    let one = length-map (paths_in_kind inside kind) (λ (p : PathNames). n.text ∷ p) in
    let same : paths_in_kind inside kind ≡ inside type = ap (paths_in_kind inside) (variable_in_it (n ∷ names) kind binds type d) ∙ ap inside d.named in
    let size : length (paths_in_kind inside kind) ≡ length (inside type) = ap length same in
    omega (arith, all, one, size)
inside_fits inside (eq left right) type d = let e : None ≡ Some d.variable = d.is in absurd (cc)
inside_fits inside (rel n parts output body) type d = let e : None ≡ Some d.variable = d.is in absurd (cc)

first_or_behind : (at n : ℕ) → at ≤ n → (n ≡ at) ⊎ (suc at ≤ n)
first_or_behind zero zero h = inl refl
first_or_behind zero (suc n) h = inr (omega arith)
first_or_behind (suc at) zero h = absurd (omega (arith, h))
first_or_behind (suc at) (suc n) h = ⊎_elim (λ e. inl (ap suc e)) (λ l. inr (omega (arith, l))) (first_or_behind at n (omega (arith, h)))

module _ (all : List ConceptTree) (kept : concepts_fault [] all ≡ Ok tt) where
  pub component_is_earlier : (n m : ℕ) → HasComponent all n m → m < n
  component_is_earlier n m h =
      let s = standing all n h.concept h.is in
      let there = subst (λ (is : List ItemTree). Contains is h.item) (items_here all kept n h.concept s) h.there in
      let known = type_known (reverse s.before) (items_behind (reverse s.before) h.concept) (sound_here all kept n h.concept s).fit.0 h.item there h.type h.declares in
      let k = stands_earlier all kept n h.concept s h.type known in
      let same = names_stand_once all kept h.type k.number m k.is (names_number all m h.type h.number) in
      omega (arith, same, k.below)

  pub component_is_smaller : (n m : ℕ) → HasComponent all n m → HasFewPaths all n → HasFewPaths all m
  component_is_smaller n m h few d is =
      let f : ItemTree → List PathNames = item_paths (declared_paths (reverse all)) in
      let sound = (fitted all kept).sound in
      let whole : length (declared_in all h.concept) ≡ length (flat_map f (effective_in all h.concept)) = ap length (declared_again (reverse all) sound.once sound.fit h.concept.name.text) in
      let part = one_of_them f (effective_in all h.concept) h.item h.there in
      let inner = inside_fits (declared_paths (reverse all)) h.item h.type h.declares in
      let same : h.number.concept ≡ d = same_Some h.number.concept d (sym h.number.is ∙ is) in
      let name : d.name.text ≡ h.type = ap (λ (c : ConceptTree). c.name.text) (sym same) ∙ h.number.named in
      let size : length (declared_in all d) ≡ length (declared_paths (reverse all) h.type) = ap (λ (t : List ℕ). length (declared_paths (reverse all) t)) name in
      let most = few h.concept h.is in
      omega (arith, whole, part, inner, size, most)

  -- a component by its number
  pub component_of : (n m : ℕ) (c : ConceptTree) → slice_get all n ≡ Some c → IsTypeOf (concept_names all) (effective_in all c) m → HasComponent all n m
  component_of n m c is t = record {
    concept = c;
    is = is;
    item = t.declare.item;
    there = t.declare.there;
    type = t.type;
    declares = t.declare.declares;
    number = is_named all m t.type t.is;
  }

  pub type_of_component : (n m : ℕ) (c : ConceptTree) → slice_get all n ≡ Some c → HasComponent all n m → IsTypeOf (concept_names all) (effective_in all c) m
  type_of_component n m c is h = record {
    type = h.type;
    is = names_number all m h.type h.number;
    declare = record {
      item = h.item;
      there = subst (λ (d : ConceptTree). Contains (effective_in all d) h.item) (same_Some h.concept c (sym h.is ∙ is)) h.there;
      declares = h.declares;
    };
  }

  -- one more concept's components are marked
  pub marked_behind : (last at : ℕ) (c : ConceptTree) (old new : List Bool) → slice_get all at ≡ Some c → at < length old → IsMarked old at → AreMarkedFrom all last (suc at) old → MarksMore (IsTypeOf (concept_names all) (effective_in all c)) old new → AreMarkedFrom all last at new
  marked_behind last at c old new is within here h more = record {
    within = h.within;
    count = more.count ∙ h.count;
    asked = more.keeps last h.asked;
    inside = inside;
    few = λ n k. ⊎_elim (λ o. h.few n o) (λ t. component_is_smaller at n (component_of at n c is t) (h.few at here)) (more.only n k);
  }
    where
      own : (m : ℕ) → HasComponent all at m → IsMarked new m
      own m k = let less = component_is_earlier at m k in more.marks m (omega (arith, less, within)) (type_of_component at m c is k)

      old_one : (n m : ℕ) → at ≤ n → (n ≡ at) ⊎ (suc at ≤ n) → IsMarked old n → HasComponent all n m → IsMarked new m
      old_one n m a (inl e) o k = own m (subst (λ (x : ℕ). HasComponent all x m) e k)
      old_one n m a (inr b) o k = more.keeps m (h.inside n m b o k)

      inside : (n m : ℕ) → at ≤ n → IsMarked new n → HasComponent all n m → IsMarked new m
      inside n m a k g =
          ⊎_elim
          (λ o. old_one n m a (first_or_behind at n a) o g)
          (λ t. let less = component_is_earlier at n (component_of at n c is t) in absurd (omega (arith, less, a)))
          (more.only n k)

  -- so it is where the concept's line was gone through
  pub line_marked : (l : Lines) (last at : ℕ) (line : List ℕ) (old new : List Bool) → AreLineages all l → at < length all → at < length old → slice_get l.lines at ≡ Some line → IsMarked old at → MarksMore (IsTypeOf l.names (items_of_line all line)) old new → AreMarkedFrom all last (suc at) old → AreMarkedFrom all last at new
  line_marked l last at line old new h within room is here more marks =
      let c = there all at within in
      marked_behind last at c.0 old new c.1 room here marks
      (subst (λ (is : List ItemTree). MarksMore (IsTypeOf (concept_names all) is) old new) (line_is_whole all l at c.0 line h c.1 is)
      (subst (λ (ns : List (List ℕ)). MarksMore (IsTypeOf ns (items_of_line all line)) old new) h.names more))

  pub unmarked_behind : (last at : ℕ) (marks : List Bool) → (IsMarked marks at → ⊥) → AreMarkedFrom all last (suc at) marks → AreMarkedFrom all last at marks
  unmarked_behind last at marks none h = record {
    within = h.within;
    count = h.count;
    asked = h.asked;
    inside = λ n m a k g. h.inside n m (let e : n ≡ at → ⊥ = λ f. none (subst (IsMarked marks) f k) in omega (arith, a, e)) k g;
    few = h.few;
  }

-- the asked concept alone
pub first_marks : (all : List ConceptTree) (last : ℕ) (marks : List Bool) → last < length all → HasFewPaths all last → IsOnlyMark last marks → AreMarkedFrom all last (suc last) marks
first_marks all last marks within few h = record {
  within = within;
  count = h.count;
  asked = h.is;
  inside = λ n m a k g. let e = h.only n k in absurd (omega (arith, e, a));
  few = λ n k. subst (HasFewPaths all) (sym (h.only n k)) few;
}
