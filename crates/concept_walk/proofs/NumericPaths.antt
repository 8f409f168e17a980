-- The canonical path of a numeric path is numeric.
use Rattle.std.proofs.Common.{◌≡◌, ℕ, Bool, true, false, List, [], ◌∷◌, ◌++◌, Option, Some, None, length, drop, refl, sym, ap, ◌∙◌, subst, ⊎_elim, append_assoc, append-nil}
use Rattle.std.specs.Prelude.{if◌then◌else◌, fold, reverse, option_and_then, Contains, ⊤}
use Rattle.std.specs.Str.{bytes_eq}
use Rattle.std.specs.Option.{option_map_or}
use Rattle.std.proofs.lemmas.Bool.{both_ways}
use Rattle.std.proofs.lemmas.List.{reverse-append}
use Rattle.std.proofs.lemmas.List.Elements.{Contains-append_left, Contains-append_right, Contains-append_cases}
use Rattle.std.proofs.lemmas.Option.{same_Some}
use Rattle.std.proofs.lemmas.Slice.Eq.{bytes_eq-Decides}
use Rattle.priz_base.proofs.Members.{contains_here, contains_cases, contains_none}
use Rattle.utopist_syntax.specs.Named.{Named}
use Rattle.utopist_syntax.specs.declared.item.Bind.{Bind}
use Rattle.utopist_syntax.specs.declared.item.VarKind.{VarKind}
use Rattle.utopist_syntax.specs.declared.item.VarKind.TheVariants.{Numeric, Of}
use Rattle.utopist_syntax.specs.FileTree.{ItemTree, var, eq, rel, ConceptTree}
use Rattle.name_sets.specs.Paths.{texts, is_prefix}
use Rattle.name_sets.proofs.Prefixes.{prefix_rest}
use Rattle.concept_rules.specs.Declarations.{is_among, declared, is_declared, Variable, variable_of, variable}
use Rattle.concept_rules.specs.Lineage.{effective_items}
use Rattle.canonical_paths.specs.PathNames.{PathNames, names_in}
use Rattle.canonical_paths.specs.Canonical.{rebind, rebound, canonical_in_kind, behind_variable, canonical_behind, canonical_path, items_behind}
use Rattle.canonical_paths.specs.Scoped.{AreScoped, ConceptsAreScoped}
use Rattle.canonical_paths.specs.steps.Fitting.{LeadsToKind, Joins, AllJoin, IsKnownKind, Fits, AllFit, AreSound}
use Rattle.canonical_paths.proofs.Scoping.{own_declared, rest_declared}
use Rattle.canonical_paths.proofs.FittingItems.{found_variable, fit_behind, known_in}
use Rattle.canonical_paths.proofs.NextVariable.{its_variable, not_before}
use Rattle.canonical_paths.proofs.BlocksStand.{drop-front}
use Rattle.concept_walk.proofs.PathTypes.{type_of_path, same_types, type_behind, same_numeric, item_known, IsOther, known_is_other, same_before}

-- one of these items declares the name, and the path behind it is numeric
record Leads (concepts : List ConceptTree) (items : List ItemTree) (first : List ℕ) (rest : PathNames) : Type 0 where
  item : ItemTree
  there : Contains items item
  own : is_among first (declared item) ≡ true
  variable : Variable
  is : variable_of item ≡ Some variable
  numeric : type_of_path concepts variable.kind rest ≡ Some Numeric

-- a numeric path through one of these items
abbrev IsNumericPath : List ConceptTree → List ItemTree → PathNames → Type 0
IsNumericPath concepts items [] = ⊥
IsNumericPath concepts items (s ∷ rest) = Leads concepts items s rest

-- a name that one of the items declares
declares_name : (items : List ItemTree) (i : ItemTree) (name : List ℕ) → Contains items i → is_among name (declared i) ≡ true → is_declared items name ≡ true
declares_name [] i name there own = absurd (contains_none i there)
declares_name (j ∷ items) i name there own =
    ⊎_elim
    (λ e. own_declared j items name (subst (λ (x : ItemTree). is_among name (declared x) ≡ true) (sym e) own))
    (λ k. rest_declared j items name (declares_name items i name k own))
    (contains_cases j items i there)

-- the only element of a list
only_one : (i j : ItemTree) → Contains (i ∷ []) j → i ≡ j
only_one i j h = ⊎_elim (λ e. e) (λ k. absurd (contains_none j k)) (contains_cases i [] j h)

module _ (concepts : List ConceptTree) where
  -- it is one through more items
  leads_more : (items wide : List ItemTree) → ((i : ItemTree) → Contains items i → Contains wide i) → (p : PathNames) → IsNumericPath concepts items p → IsNumericPath concepts wide p
  leads_more items wide w [] h = absurd h
  leads_more items wide w (s ∷ rest) h =
      record { item = h.item; there = w h.item h.there; own = h.own; variable = h.variable; is = h.is; numeric = h.numeric }

  -- what is numeric inside a type, behind a path that leads to the type
  right_leads : (done : List ItemTree) (names : List Named) (kind : VarKind) (q : PathNames) → LeadsToKind concepts done names kind → type_of_path concepts kind q ≡ Some Numeric → IsNumericPath concepts done (texts names ++ q)
  right_leads done names kind q l h =
      let r : Leads concepts done l.first.text (texts l.rest ++ q) =
      record {
        item = l.item;
        there = l.there;
        own = l.own;
        variable = l.variable;
        is = l.is_variable;
        numeric = type_behind concepts l.variable.kind kind (texts l.rest) q (same_types concepts l.variable.kind l.rest ∙ l.along) ∙ h;
      } in
      subst (λ (ns : List Named). IsNumericPath concepts done (texts ns ++ q)) (sym l.is) r

  -- what bindings put in the place of a path
  abbrev IsFound : List ItemTree → Option PathNames → Type 0
  IsFound done None = ⊤
  IsFound done (Some r) = IsNumericPath concepts done r

  one_found : (done : List ItemTree) (kind : VarKind) (q : PathNames) (b : Bind) (found : Option PathNames) → Joins concepts done kind b → type_of_path concepts kind q ≡ Some Numeric → IsFound done found → IsFound done (rebind q found b)
  one_found done kind q b found j h k = by (is_prefix (names_in b.left) q) refl
    where
      by : (t : Bool) → is_prefix (names_in b.left) q ≡ t → IsFound done (if t then Some (names_in b.right ++ drop (length (names_in b.left)) q) else found)
      by false e = k
      by true e =
          let r = prefix_rest (names_in b.left) q e in
          let behind : drop (length (names_in b.left)) q ≡ r.0 = ap (drop (length (names_in b.left))) r.1 ∙ drop-front (names_in b.left) r.0 in
          let left : type_of_path concepts kind (names_in b.left) ≡ Some j.left = same_types concepts kind b.left.parts ∙ j.left_is in
          let inner : type_of_path concepts j.left r.0 ≡ Some Numeric =
          sym (type_behind concepts kind j.left (names_in b.left) r.0 left)
          ∙ subst (λ (x : PathNames). type_of_path concepts kind x ≡ Some Numeric) r.1 h in
          subst (λ (s : PathNames). IsNumericPath concepts done (names_in b.right ++ s)) (sym behind)
          (right_leads done b.right.parts j.right r.0 j.right_is (same_numeric concepts j.left j.right r.0 j.same inner))

  all_found : (done : List ItemTree) (kind : VarKind) (q : PathNames) (binds : List Bind) (found : Option PathNames) → AllJoin concepts done kind binds → type_of_path concepts kind q ≡ Some Numeric → IsFound done found → IsFound done (fold (rebind q) found binds)
  all_found done kind q [] found j h k = k
  all_found done kind q (b ∷ binds) found j h k = all_found done kind q binds (rebind q found b) j.1 h (one_found done kind q b found j.0 h k)

  -- where it is so inside of types
  module _ (known : (type : Named) (p : PathNames) → type_of_path concepts (Of type) p ≡ Some Numeric → type_of_path concepts (Of type) (canonical_path concepts type.text p) ≡ Some Numeric) where
    -- the canonical path of a numeric path through these items is one
    abbrev IsKept : List ItemTree → Type 0
    IsKept done =
        (p : PathNames) → IsNumericPath concepts done p → IsNumericPath concepts done (canonical_behind (canonical_path concepts) (reverse done) p)

    kind_kept : (kind : VarKind) (q : PathNames) → type_of_path concepts kind q ≡ Some Numeric → type_of_path concepts kind (canonical_in_kind (canonical_path concepts) kind q) ≡ Some Numeric
    kind_kept Numeric q h = h
    kind_kept (Of type) q h = known type q h

    -- a path through a variable of this item
    own_kept : (done : List ItemTree) (i : ItemTree) → IsKept done → Fits concepts done i → (name : List ℕ) (rest : PathNames) → is_among name (declared i) ≡ true → (v : Variable) → variable_of i ≡ Some v → type_of_path concepts v.kind rest ≡ Some Numeric → IsNumericPath concepts (done ++ i ∷ []) (behind_variable (canonical_path concepts) (canonical_behind (canonical_path concepts) (reverse done)) name (variable_of i) rest)
    own_kept done (var names kind binds) kept fits name rest own v is h =
        let q = canonical_in_kind (canonical_path concepts) kind rest in
        let same : record { kind = kind; binds = binds } ≡ v = same_Some (record { kind = kind; binds = binds }) v is in
        let inner = kind_kept kind rest (subst (λ (u : Variable). type_of_path concepts u.kind rest ≡ Some Numeric) (sym same) h) in
        by (rebound binds q) q (all_found done kind q binds None fits.join inner tt) inner
      where
        by : (o : Option PathNames) (q : PathNames) → IsFound done o → type_of_path concepts kind q ≡ Some Numeric → IsNumericPath concepts (done ++ var names kind binds ∷ []) (option_map_or (canonical_behind (canonical_path concepts) (reverse done)) o (name ∷ q))
        by None q f inner = record {
          item = var names kind binds;
          there = Contains-append_right done (var names kind binds ∷ []) (var names kind binds) (contains_here (var names kind binds) []);
          own = own;
          variable = record { kind = kind; binds = binds };
          is = refl;
          numeric = inner;
        }
        by (Some r) q f inner =
            leads_more done (done ++ var names kind binds ∷ []) (λ j k. Contains-append_left done (var names kind binds ∷ []) j k)
            (canonical_behind (canonical_path concepts) (reverse done) r) (kept r f)
    own_kept done (eq left right) kept fits name rest own v is h = absurd (cc)
    own_kept done (rel n parts output body) kept fits name rest own v is h = absurd (cc)

    -- one more item
    one_kept : (done : List ItemTree) (i : ItemTree) (more : List ItemTree) → AreScoped (reverse (done ++ i ∷ more)) → Fits concepts done i → IsKept done → IsKept (done ++ i ∷ [])
    one_kept done i more apart fits kept p h =
        subst (λ (is : List ItemTree). IsNumericPath concepts (done ++ i ∷ []) (canonical_behind (canonical_path concepts) is p)) (sym (reverse-append done (i ∷ [])))
        (by p h)
      where
        older : PathNames → PathNames
        older = canonical_behind (canonical_path concepts) (reverse done)

        deeper : (t : Bool) (name next : List ℕ) (rest : PathNames) → is_among name (declared i) ≡ t → Leads concepts (done ++ i ∷ []) name (next ∷ rest) → IsNumericPath concepts (done ++ i ∷ []) (if t then behind_variable (canonical_path concepts) older name (variable_of i) (next ∷ rest) else older (name ∷ next ∷ rest))
        deeper true name next rest e g =
            ⊎_elim
            (λ k. absurd (both_ways (is_declared done name) (not_before (done ++ i ∷ more) apart done i more name refl e) (declares_name done g.item name k g.own)))
            (λ k.
            own_kept done i kept fits name (next ∷ rest) e g.variable
            (subst (λ (j : ItemTree). variable_of j ≡ Some g.variable) (sym (only_one i g.item k)) g.is) g.numeric)
            (Contains-append_cases done (i ∷ []) g.item g.there)
        deeper false name next rest e g =
            ⊎_elim
            (λ k.
            leads_more done (done ++ i ∷ []) (λ j there. Contains-append_left done (i ∷ []) j there) (older (name ∷ next ∷ rest))
            (kept (name ∷ next ∷ rest) (record { item = g.item; there = k; own = g.own; variable = g.variable; is = g.is; numeric = g.numeric })))
            (λ k. absurd (both_ways (is_among name (declared i)) e (subst (λ (j : ItemTree). is_among name (declared j) ≡ true) (sym (only_one i g.item k)) g.own)))
            (Contains-append_cases done (i ∷ []) g.item g.there)

        by : (p : PathNames) → IsNumericPath concepts (done ++ i ∷ []) p → IsNumericPath concepts (done ++ i ∷ []) (canonical_behind (canonical_path concepts) (i ∷ reverse done) p)
        by [] g = g
        by (name ∷ []) g = g
        by (name ∷ next ∷ rest) g = deeper (is_among name (declared i)) name next rest refl g

    items_kept : (done more : List ItemTree) → AreScoped (reverse (done ++ more)) → AllFit concepts [] (done ++ more) → IsKept done → IsKept (done ++ more)
    items_kept done [] apart fit kept = subst IsKept (sym (append-nil done)) kept
    items_kept done (i ∷ more) apart fit kept =
        let e = append_assoc done (i ∷ []) more in
        subst IsKept e
        (items_kept (done ++ i ∷ []) more (subst (λ (is : List ItemTree). AreScoped (reverse is)) (sym e) apart) (subst (AllFit concepts []) (sym e) fit)
        (one_kept done i more apart (fit_behind concepts [] done (i ∷ more) fit).0 kept))

    no_items_kept : IsKept []
    no_items_kept [] h = absurd h
    no_items_kept (s ∷ rest) h = absurd (contains_none h.item h.there)

    whole_kept : (items : List ItemTree) → AreScoped (reverse items) → AllFit concepts [] items → IsKept items
    whole_kept items apart fit = items_kept [] items apart fit no_items_kept

-- the concept that stands first
module _ (c : ConceptTree) (earlier : List ConceptTree) (sound : AreSound (c ∷ earlier)) (scoped : ConceptsAreScoped (c ∷ earlier)) where
  abbrev items : List ItemTree
  items = items_behind earlier c

  other_type : (i : ItemTree) (v : Variable) → Contains items i → variable_of i ≡ Some v → IsOther c earlier sound.once.0 sound.fit.1 v.kind
  other_type i v there is =
      known_is_other c earlier sound.once.0 sound.fit.1 v.kind (item_known earlier items (known_in earlier [] items sound.fit.0) i v there is)

  -- a numeric path inside of it leads through its items
  through_items : (p : PathNames) → type_of_path (c ∷ earlier) (Of c.name) p ≡ Some Numeric → IsNumericPath earlier items p
  through_items [] h = absurd (cc)
  through_items (s ∷ rest) h = by (variable items s) refl h
    where
      by : (o : Option Variable) → variable items s ≡ o → option_and_then (λ v. type_of_path (c ∷ earlier) v.kind rest) o ≡ Some Numeric → IsNumericPath earlier items (s ∷ rest)
      by None e g = absurd (cc)
      by (Some v) e g =
          let r = found_variable items s v e in
          record {
            item = r.item;
            there = r.found.there;
            own = r.found.own;
            variable = v;
            is = r.is;
            numeric = sym (same_before c earlier sound.once.0 sound.fit.1 v.kind rest (other_type r.item v r.found.there r.is)) ∙ g;
          }

  from_items : (p : PathNames) → IsNumericPath earlier items p → type_of_path (c ∷ earlier) (Of c.name) p ≡ Some Numeric
  from_items [] h = absurd h
  from_items (s ∷ rest) h =
      ap (option_and_then (λ (v : Variable). type_of_path (c ∷ earlier) v.kind rest)) (its_variable items scoped.0 h.item h.variable s h.there h.own h.is)
      ∙ same_before c earlier sound.once.0 sound.fit.1 h.variable.kind rest (other_type h.item h.variable h.there h.is)
      ∙ h.numeric

-- the canonical path of a numeric path is numeric
pub canonical_numeric :
    (concepts : List ConceptTree) → AreSound concepts → ConceptsAreScoped concepts
    → (type : Named) (p : PathNames) → type_of_path concepts (Of type) p ≡ Some Numeric
    → type_of_path concepts (Of type) (canonical_path concepts type.text p) ≡ Some Numeric
canonical_numeric [] sound scoped type p h = h
canonical_numeric (c ∷ earlier) sound scoped type p h =
    by (bytes_eq c.name.text type.text) refl (canonical_numeric earlier before scoped.1)
  where
    before : AreSound earlier
    before = record { once = sound.once.1; fit = sound.fit.1 }

    by : (t : Bool) → bytes_eq c.name.text type.text ≡ t → ((name : Named) (q : PathNames) → type_of_path earlier (Of name) q ≡ Some Numeric → type_of_path earlier (Of name) (canonical_path earlier name.text q) ≡ Some Numeric) → type_of_path (c ∷ earlier) (Of type) (if t then canonical_behind (canonical_path earlier) (reverse (items_behind earlier c)) p else canonical_path earlier type.text p) ≡ Some Numeric
    by true e rec =
        let back : bytes_eq type.text c.name.text ≡ true = (bytes_eq-Decides type.text c.name.text).1 (sym ((bytes_eq-Decides c.name.text type.text).0 e)) in
        let q = canonical_behind (canonical_path earlier) (reverse (items_behind earlier c)) p in
        same_numeric (c ∷ earlier) (Of c.name) (Of type) q e
        (from_items c earlier sound scoped q
        (whole_kept earlier rec (items_behind earlier c) scoped.0 sound.fit.0 p
        (through_items c earlier sound scoped p (same_numeric (c ∷ earlier) (Of type) (Of c.name) p back h))))
    by false e rec =
        same_before c earlier sound.once.0 sound.fit.1 (Of type) (canonical_path earlier type.text p) e
        ∙ rec type p (sym (same_before c earlier sound.once.0 sound.fit.1 (Of type) p e) ∙ h)
