-- The canonical path of a declared path is declared.
use Rattle.std.proofs.Common.{◌≡◌, ℕ, Bool, true, false, List, [], ◌∷◌, ◌++◌, Option, Some, None, Ok, map, length, drop, refl, sym, ap, ◌∙◌, subst, ⊎_elim, append_assoc, append-nil}
use Rattle.std.specs.Prelude.{if◌then◌else◌, fold, reverse, option_and_then, Contains, ⊤}
use Rattle.std.specs.Str.{bytes_eq}
use Rattle.std.specs.List.{flat_map}
use Rattle.std.specs.Option.{option_map_or}
use Rattle.std.proofs.lemmas.Bool.{both_ways}
use Rattle.std.proofs.lemmas.Grind.{flat_map-append}
use Rattle.std.proofs.lemmas.List.{reverse-append}
use Rattle.std.proofs.lemmas.List.Elements.{Contains-append_left, Contains-append_right, Contains-append_cases}
use Rattle.std.proofs.lemmas.Option.{same_Some}
use Rattle.std.proofs.lemmas.Slice.Eq.{bytes_eq-Decides}
use Rattle.priz_base.proofs.Members.{contains_here, contains_there, contains_cases, contains_none, contains_map}
use Rattle.utopist_syntax.specs.Named.{Named}
use Rattle.utopist_syntax.specs.declared.item.Bind.{Bind}
use Rattle.utopist_syntax.specs.declared.item.VarKind.{VarKind}
use Rattle.utopist_syntax.specs.declared.item.VarKind.TheVariants.{Numeric, Of}
use Rattle.utopist_syntax.specs.FileTree.{ItemTree, var, eq, rel, ConceptTree}
use Rattle.name_sets.specs.Paths.{texts, is_prefix}
use Rattle.name_sets.proofs.Prefixes.{prefix_rest}
use Rattle.concept_rules.specs.Declarations.{is_among, declared, is_declared, Variable, variable_of, variable}
use Rattle.concept_rules.specs.Kinds.{variable_in, kind_along, is_same_kind}
use Rattle.concept_rules.specs.Lineage.{lineage, all_items, ancestors, effective_items}
use Rattle.concept_rules.specs.ConceptRules.{concepts_fault}
use Rattle.canonical_paths.specs.PathNames.{PathNames, names_in}
use Rattle.canonical_paths.specs.Canonical.{rebind, rebound, canonical_in_kind, behind_variable, canonical_behind, canonical_path, items_behind}
use Rattle.canonical_paths.specs.DeclaredPaths.{paths_in_kind, variable_paths, item_paths, declared_paths}
use Rattle.canonical_paths.specs.Scoped.{AreScoped, ConceptsAreScoped}
use Rattle.canonical_paths.specs.steps.Fitting.{LeadsToKind, Joins, AllJoin, Fits, AllFit, AreSound}
use Rattle.canonical_paths.proofs.Elements.{tails}
use Rattle.canonical_paths.proofs.FittingItems.{found_variable, fit_behind}
use Rattle.canonical_paths.proofs.KnownPaths.{declared_again, variable_declares}
use Rattle.canonical_paths.proofs.NextVariable.{its_variable, not_before, begins_item, begins_declared}
use Rattle.canonical_paths.proofs.BlocksStand.{drop-front}
use Rattle.canonical_paths.proofs.CheckedConcepts.{kept_are_scoped}
use Rattle.canonical_paths.proofs.FittingConcepts.{kept_are_fitted}

-- what stands behind a name
rest_of_mapped : (own name : List ℕ) (rest : PathNames) (ps : List PathNames) → Contains (map (λ p. own ∷ p) ps) (name ∷ rest) → Contains ps rest
rest_of_mapped own name rest [] h = absurd (contains_none (name ∷ rest) h)
rest_of_mapped own name rest (p ∷ ps) h =
    ⊎_elim
    (λ e. subst (Contains (p ∷ ps)) (tails own name p rest e) (contains_here p ps))
    (λ k. contains_there p ps rest (rest_of_mapped own name rest ps k))
    (contains_cases (own ∷ p) (map (λ p. own ∷ p) ps) (name ∷ rest) h)

rest_of_names : (ps : List PathNames) (names : List Named) (name : List ℕ) (rest : PathNames) → Contains (flat_map (λ n. variable_paths ps n.text) names) (name ∷ rest) → Contains ([] ∷ ps) rest
rest_of_names ps [] name rest h = absurd (contains_none (name ∷ rest) h)
rest_of_names ps (n ∷ names) name rest h =
    ⊎_elim
    (λ k.
    ⊎_elim
    (λ e. subst (Contains ([] ∷ ps)) (tails n.text name [] rest e) (contains_here [] ps))
    (λ g. contains_there [] ps rest (rest_of_mapped n.text name rest ps g))
    (contains_cases (n.text ∷ []) (map (λ p. n.text ∷ p) ps) (name ∷ rest) k))
    (λ k. rest_of_names ps names name rest k)
    (Contains-append_cases (variable_paths ps n.text) (flat_map (λ n. variable_paths ps n.text) names) (name ∷ rest) h)

-- a path of an item leads through its variable
record Through (inside : List ℕ → List PathNames) (i : ItemTree) (rest : PathNames) : Type 0 where
  own : Variable
  is : variable_of i ≡ Some own
  behind : Contains ([] ∷ paths_in_kind inside own.kind) rest

through : (inside : List ℕ → List PathNames) (i : ItemTree) (name : List ℕ) (rest : PathNames) → Contains (item_paths inside i) (name ∷ rest) → Through inside i rest
through inside (var names kind binds) name rest h = record { own = record { kind = kind; binds = binds }; is = refl; behind = rest_of_names (paths_in_kind inside kind) names name rest h }
through inside (eq left right) name rest h = absurd (contains_none (name ∷ rest) h)
through inside (rel n parts output body) name rest h = absurd (contains_none (name ∷ rest) h)

-- the item of a path
its_item : (f : ItemTree → List PathNames) (items : List ItemTree) (p : PathNames) → Contains (flat_map f items) p → (i : ItemTree) × (Contains items i × Contains (f i) p)
its_item f [] p h = absurd (contains_none p h)
its_item f (i ∷ items) p h =
    ⊎_elim
    (λ k. (i, (contains_here i items, k)))
    (λ k. let r = its_item f items p k in (r.0, (contains_there i items r.0 r.1.0, r.1.1)))
    (Contains-append_cases (f i) (flat_map f items) p h)

-- the effective items of each concept are scoped
pub effective_scoped : (concepts : List ConceptTree) → ConceptsAreScoped concepts → (name : List ℕ) → AreScoped (reverse (effective_items concepts name))
effective_scoped [] h name = tt
effective_scoped (c ∷ earlier) h name = by (bytes_eq c.name.text name) refl (effective_scoped earlier h.1 name)
  where
    by : (t : Bool) → bytes_eq c.name.text name ≡ t → AreScoped (reverse (effective_items earlier name)) → AreScoped (reverse (effective_items (c ∷ earlier) name))
    by true e k = subst (λ (n : List ℕ). AreScoped (reverse (effective_items (c ∷ earlier) n))) ((bytes_eq-Decides c.name.text name).0 e) h.0
    by false e k =
        subst (λ (cs : List ConceptTree). AreScoped (reverse (all_items cs))) (ap (λ (t : Bool). if t then ancestors earlier c.parents ++ c ∷ [] else lineage earlier name) (sym e)) k

module _ (concepts : List ConceptTree) (sound : AreSound concepts) (scoped : ConceptsAreScoped concepts) where
  abbrev inside : List ℕ → List PathNames
  inside = declared_paths concepts

  -- a path inside of a type, from where a known one leads
  rest_inside : (kind k : VarKind) (left : List Named) (q : PathNames) → kind_along concepts kind left ≡ Some k → Contains ([] ∷ paths_in_kind (declared_paths concepts) kind) (texts left ++ q) → Contains ([] ∷ paths_in_kind (declared_paths concepts) k) q
  rest_inside kind k [] q e h = subst (λ (t : VarKind). Contains ([] ∷ paths_in_kind (declared_paths concepts) t) q) (same_Some kind k e) h
  rest_inside Numeric k (s ∷ left) q e h = absurd (cc)
  rest_inside (Of type) k (s ∷ left) q e h =
      ⊎_elim
      (λ f. absurd (not_cons f))
      (λ g.
      by (variable (effective_items concepts type.text) s.text) refl e
      (found (subst (λ (ps : List PathNames). Contains ps (s.text ∷ (texts left ++ q))) (declared_again concepts sound.once sound.fit type.text) g))
      (λ v. rest_inside v.kind k left q))
      (contains_cases [] (declared_paths concepts type.text) (s.text ∷ (texts left ++ q)) h)
    where
      not_cons : [] ≡ s.text ∷ (texts left ++ q) → ⊥
      not_cons f = cc

      found : Contains (flat_map (item_paths (declared_paths concepts)) (effective_items concepts type.text)) (s.text ∷ (texts left ++ q)) → (v : Variable) × ((variable (effective_items concepts type.text) s.text ≡ Some v) × Contains ([] ∷ paths_in_kind (declared_paths concepts) v.kind) (texts left ++ q))
      found g =
          let i = its_item (item_paths (declared_paths concepts)) (effective_items concepts type.text) (s.text ∷ (texts left ++ q)) g in
          let t = through (declared_paths concepts) i.0 s.text (texts left ++ q) i.1.1 in
          let own = begins_item (declared_paths concepts) i.0 s.text (texts left ++ q) i.1.1 in
          (t.own, (its_variable (effective_items concepts type.text) (effective_scoped concepts scoped type.text) i.0 t.own s.text i.1.0 own t.is, t.behind))

      by : (o : Option Variable) → variable (effective_items concepts type.text) s.text ≡ o → option_and_then (λ v. kind_along concepts v.kind left) o ≡ Some k → ((v : Variable) × ((variable (effective_items concepts type.text) s.text ≡ Some v) × Contains ([] ∷ paths_in_kind (declared_paths concepts) v.kind) (texts left ++ q))) → ((v : Variable) → kind_along concepts v.kind left ≡ Some k → Contains ([] ∷ paths_in_kind (declared_paths concepts) v.kind) (texts left ++ q) → Contains ([] ∷ paths_in_kind (declared_paths concepts) k) q) → Contains ([] ∷ paths_in_kind (declared_paths concepts) k) q
      by None f g r rec = absurd (cc)
      by (Some v) f g r rec =
          let same : r.0 ≡ v = same_Some r.0 v (sym r.1.0 ∙ f) in
          rec v g (subst (λ (u : Variable). Contains ([] ∷ paths_in_kind (declared_paths concepts) u.kind) (texts left ++ q)) same r.1.1)

  -- a known path, and what is inside of it
  variable_has : (kind : VarKind) (name : List ℕ) (q : PathNames) → Contains ([] ∷ paths_in_kind (declared_paths concepts) kind) q → Contains (variable_paths (paths_in_kind (declared_paths concepts) kind) name) (name ∷ q)
  variable_has kind name q h = contains_map (λ (p : PathNames). name ∷ p) ([] ∷ paths_in_kind (declared_paths concepts) kind) q h

  along_has : (kind k : VarKind) (rest : List Named) (name : List ℕ) (q : PathNames) → kind_along concepts kind rest ≡ Some k → Contains ([] ∷ paths_in_kind (declared_paths concepts) k) q → Contains (variable_paths (paths_in_kind (declared_paths concepts) kind) name) (name ∷ (texts rest ++ q))
  along_has kind k [] name q e h = variable_has kind name q (subst (λ (t : VarKind). Contains ([] ∷ paths_in_kind (declared_paths concepts) t) q) (sym (same_Some kind k e)) h)
  along_has Numeric k (m ∷ rest) name q e h = absurd (cc)
  along_has (Of type) k (m ∷ rest) name q e h =
      variable_has (Of type) name (m.text ∷ (texts rest ++ q))
      (contains_there [] (declared_paths concepts type.text) (m.text ∷ (texts rest ++ q))
      (by (variable (effective_items concepts type.text) m.text) refl e (λ v g. along_has v.kind k rest m.text q g h)))
    where
      by : (o : Option Variable) → variable (effective_items concepts type.text) m.text ≡ o → option_and_then (λ v. kind_along concepts v.kind rest) o ≡ Some k → ((v : Variable) → kind_along concepts v.kind rest ≡ Some k → Contains (variable_paths (paths_in_kind (declared_paths concepts) v.kind) m.text) (m.text ∷ (texts rest ++ q))) → Contains (declared_paths concepts type.text) (m.text ∷ (texts rest ++ q))
      by None f g rec = absurd (cc)
      by (Some v) f g rec =
          let r = found_variable (effective_items concepts type.text) m.text v f in
          subst (λ (ps : List PathNames). Contains ps (m.text ∷ (texts rest ++ q))) (sym (declared_again concepts sound.once sound.fit type.text))
          (variable_declares (declared_paths concepts) (effective_items concepts type.text) r.item v m.text (m.text ∷ (texts rest ++ q)) r.found.there r.is r.found.own (rec v g))

  leading_has : (items : List ItemTree) (names : List Named) (kind : VarKind) (q : PathNames) → LeadsToKind concepts items names kind → Contains ([] ∷ paths_in_kind (declared_paths concepts) kind) q → Contains (flat_map (item_paths (declared_paths concepts)) items) (texts names ++ q)
  leading_has items names kind q l h =
      subst (λ (ns : List Named). Contains (flat_map (item_paths (declared_paths concepts)) items) (texts ns ++ q)) (sym l.is)
      (variable_declares (declared_paths concepts) items l.item l.variable l.first.text (l.first.text ∷ (texts l.rest ++ q)) l.there l.is_variable l.own
      (along_has l.variable.kind kind l.rest l.first.text q l.along h))

  same_inside : (k m : VarKind) → is_same_kind k m ≡ true → paths_in_kind (declared_paths concepts) k ≡ paths_in_kind (declared_paths concepts) m
  same_inside Numeric Numeric e = refl
  same_inside Numeric (Of o) e = absurd (cc)
  same_inside (Of t) Numeric e = absurd (cc)
  same_inside (Of t) (Of o) e = ap (declared_paths concepts) ((bytes_eq-Decides t.text o.text).0 e)

  -- what bindings put in the place of a path
  abbrev IsFound : List ItemTree → Option PathNames → Type 0
  IsFound done None = ⊤
  IsFound done (Some r) = Contains (flat_map (item_paths (declared_paths concepts)) done) r

  one_found : (done : List ItemTree) (kind : VarKind) (q : PathNames) (b : Bind) (found : Option PathNames) → Joins concepts done kind b → Contains ([] ∷ paths_in_kind (declared_paths concepts) kind) q → IsFound done found → IsFound done (rebind q found b)
  one_found done kind q b found j h k = by (is_prefix (names_in b.left) q) refl
    where
      by : (t : Bool) → is_prefix (names_in b.left) q ≡ t → IsFound done (if t then Some (names_in b.right ++ drop (length (names_in b.left)) q) else found)
      by false e = k
      by true e =
          let r = prefix_rest (names_in b.left) q e in
          let behind : drop (length (names_in b.left)) q ≡ r.0 = ap (drop (length (names_in b.left))) r.1 ∙ drop-front (names_in b.left) r.0 in
          let inner = rest_inside kind j.left b.left.parts r.0 j.left_is (subst (Contains ([] ∷ paths_in_kind (declared_paths concepts) kind)) r.1 h) in
          subst (λ (s : PathNames). Contains (flat_map (item_paths (declared_paths concepts)) done) (names_in b.right ++ s)) (sym behind)
          (leading_has done b.right.parts j.right r.0 j.right_is (subst (λ (ps : List PathNames). Contains ([] ∷ ps) r.0) (same_inside j.left j.right j.same) inner))

  all_found : (done : List ItemTree) (kind : VarKind) (q : PathNames) (binds : List Bind) (found : Option PathNames) → AllJoin concepts done kind binds → Contains ([] ∷ paths_in_kind (declared_paths concepts) kind) q → IsFound done found → IsFound done (fold (rebind q) found binds)
  all_found done kind q [] found j h k = k
  all_found done kind q (b ∷ binds) found j h k = all_found done kind q binds (rebind q found b) j.1 h (one_found done kind q b found j.0 h k)

  -- where it is so inside of types
  module _ (known : (name : List ℕ) (p : PathNames) → Contains (declared_paths concepts name) p → Contains (declared_paths concepts name) (canonical_path concepts name p)) where
    abbrev IsKept : List ItemTree → Type 0
    IsKept done =
        (p : PathNames) → Contains (flat_map (item_paths (declared_paths concepts)) done) p → Contains (flat_map (item_paths (declared_paths concepts)) done) (canonical_behind (canonical_path concepts) (reverse done) p)

    kind_kept : (kind : VarKind) (q : PathNames) → Contains (paths_in_kind (declared_paths concepts) kind) q → Contains (paths_in_kind (declared_paths concepts) kind) (canonical_in_kind (canonical_path concepts) kind q)
    kind_kept Numeric q h = h
    kind_kept (Of type) q h = known type.text q h

    -- a path through a variable of this item
    own_kept : (done : List ItemTree) (i : ItemTree) → IsKept done → Fits concepts done i → (name next : List ℕ) (rest : PathNames) → is_among name (declared i) ≡ true → Contains (item_paths (declared_paths concepts) i) (name ∷ next ∷ rest) → Contains (flat_map (item_paths (declared_paths concepts)) (done ++ i ∷ [])) (behind_variable (canonical_path concepts) (canonical_behind (canonical_path concepts) (reverse done)) name (variable_of i) (next ∷ rest))
    own_kept done (var names kind binds) kept fits name next rest own h =
        let q = canonical_in_kind (canonical_path concepts) kind (next ∷ rest) in
        let behind = rest_of_names (paths_in_kind (declared_paths concepts) kind) names name (next ∷ rest) h in
        let there : Contains (paths_in_kind (declared_paths concepts) kind) (next ∷ rest) =
        ⊎_elim (λ e. absurd (not_cons e)) (λ k. k) (contains_cases [] (paths_in_kind (declared_paths concepts) kind) (next ∷ rest) behind) in
        let inner = contains_there [] (paths_in_kind (declared_paths concepts) kind) q (kind_kept kind (next ∷ rest) there) in
        subst (λ (ps : List PathNames). Contains ps (option_map_or (canonical_behind (canonical_path concepts) (reverse done)) (rebound binds q) (name ∷ q)))
        (sym (flat_map-append (item_paths (declared_paths concepts)) done (var names kind binds ∷ [])))
        (by (rebound binds q) q (all_found done kind q binds None fits.join inner tt) inner)
      where
        not_cons : [] ≡ next ∷ rest → ⊥
        not_cons e = cc

        by : (o : Option PathNames) (q : PathNames) → IsFound done o → Contains ([] ∷ paths_in_kind (declared_paths concepts) kind) q → Contains (flat_map (item_paths (declared_paths concepts)) done ++ flat_map (item_paths (declared_paths concepts)) (var names kind binds ∷ [])) (option_map_or (canonical_behind (canonical_path concepts) (reverse done)) o (name ∷ q))
        by None q f inner =
            Contains-append_right (flat_map (item_paths (declared_paths concepts)) done) (flat_map (item_paths (declared_paths concepts)) (var names kind binds ∷ [])) (name ∷ q)
            (variable_declares (declared_paths concepts) (var names kind binds ∷ []) (var names kind binds) (record { kind = kind; binds = binds }) name (name ∷ q) (contains_here (var names kind binds) []) refl own
            (variable_has kind name q inner))
        by (Some r) q f inner =
            Contains-append_left (flat_map (item_paths (declared_paths concepts)) done) (flat_map (item_paths (declared_paths concepts)) (var names kind binds ∷ [])) (canonical_behind (canonical_path concepts) (reverse done) r) (kept r f)
    own_kept done (eq left right) kept fits name next rest own h = absurd (contains_none (name ∷ next ∷ rest) h)
    own_kept done (rel n parts output body) kept fits name next rest own h = absurd (contains_none (name ∷ next ∷ rest) h)

    -- one more item
    one_kept : (done : List ItemTree) (i : ItemTree) (more : List ItemTree) → AreScoped (reverse (done ++ i ∷ more)) → Fits concepts done i → IsKept done → IsKept (done ++ i ∷ [])
    one_kept done i more apart fits kept p h =
        subst (λ (is : List ItemTree). Contains (flat_map (item_paths (declared_paths concepts)) (done ++ i ∷ [])) (canonical_behind (canonical_path concepts) is p)) (sym (reverse-append done (i ∷ [])))
        (by p h)
      where
        both : flat_map (item_paths (declared_paths concepts)) (done ++ i ∷ []) ≡ flat_map (item_paths (declared_paths concepts)) done ++ item_paths (declared_paths concepts) i
        both = flat_map-append (item_paths (declared_paths concepts)) done (i ∷ []) ∙ ap (λ (ps : List PathNames). flat_map (item_paths (declared_paths concepts)) done ++ ps) (append-nil (item_paths (declared_paths concepts) i))

        deeper : (t : Bool) (name next : List ℕ) (rest : PathNames) → is_among name (declared i) ≡ t → Contains (flat_map (item_paths (declared_paths concepts)) (done ++ i ∷ [])) (name ∷ next ∷ rest) → Contains (flat_map (item_paths (declared_paths concepts)) (done ++ i ∷ [])) (if t then behind_variable (canonical_path concepts) (canonical_behind (canonical_path concepts) (reverse done)) name (variable_of i) (next ∷ rest) else canonical_behind (canonical_path concepts) (reverse done) (name ∷ next ∷ rest))
        deeper true name next rest e g =
            own_kept done i kept fits name next rest e
            (⊎_elim
            (λ k. absurd (both_ways (is_declared done name) (not_before (done ++ i ∷ more) apart done i more name refl e) (begins_declared (declared_paths concepts) done name (next ∷ rest) k)))
            (λ k. k)
            (Contains-append_cases (flat_map (item_paths (declared_paths concepts)) done) (item_paths (declared_paths concepts) i) (name ∷ next ∷ rest) (subst (λ (ps : List PathNames). Contains ps (name ∷ next ∷ rest)) both g)))
        deeper false name next rest e g =
            ⊎_elim
            (λ k.
            subst (λ (ps : List PathNames). Contains ps (canonical_behind (canonical_path concepts) (reverse done) (name ∷ next ∷ rest))) (sym both)
            (Contains-append_left (flat_map (item_paths (declared_paths concepts)) done) (item_paths (declared_paths concepts) i) (canonical_behind (canonical_path concepts) (reverse done) (name ∷ next ∷ rest)) (kept (name ∷ next ∷ rest) k)))
            (λ k. absurd (both_ways (is_among name (declared i)) e (begins_item (declared_paths concepts) i name (next ∷ rest) k)))
            (Contains-append_cases (flat_map (item_paths (declared_paths concepts)) done) (item_paths (declared_paths concepts) i) (name ∷ next ∷ rest) (subst (λ (ps : List PathNames). Contains ps (name ∷ next ∷ rest)) both g))

        by : (p : PathNames) → Contains (flat_map (item_paths (declared_paths concepts)) (done ++ i ∷ [])) p → Contains (flat_map (item_paths (declared_paths concepts)) (done ++ i ∷ [])) (canonical_behind (canonical_path concepts) (i ∷ reverse done) p)
        by [] g = g
        by (name ∷ []) g = g
        by (name ∷ next ∷ rest) g = deeper (is_among name (declared i)) name next rest refl g

    items_kept : (done more : List ItemTree) → AreScoped (reverse (done ++ more)) → AllFit concepts [] (done ++ more) → IsKept done → IsKept (done ++ more)
    items_kept done [] apart fit kept = subst IsKept (sym (append-nil done)) kept
    items_kept done (i ∷ more) apart fit kept =
        let e = append_assoc done (i ∷ []) more in
        subst IsKept e
        (items_kept (done ++ i ∷ []) more (subst (λ (is : List ItemTree). AreScoped (reverse is)) (sym e) apart) (subst (AllFit concepts []) (sym e) fit)
        (one_kept done i more apart (fit_behind concepts [] done (i ∷ more) fit).0 kept))

    whole_kept : (items : List ItemTree) → AreScoped (reverse items) → AllFit concepts [] items → IsKept items
    whole_kept items apart fit = items_kept [] items apart fit (λ p h. absurd (contains_none p h))

canonical_kept : (concepts : List ConceptTree) → AreSound concepts → ConceptsAreScoped concepts → (name : List ℕ) (p : PathNames) → Contains (declared_paths concepts name) p → Contains (declared_paths concepts name) (canonical_path concepts name p)
canonical_kept [] sound scoped name p h = absurd (contains_none p h)
canonical_kept (c ∷ earlier) sound scoped name p h =
    let before : AreSound earlier = record { once = sound.once.1; fit = sound.fit.1 } in
    by (bytes_eq c.name.text name)
    (whole_kept earlier before scoped.1 (canonical_kept earlier before scoped.1) (items_behind earlier c) scoped.0 sound.fit.0 p)
    (canonical_kept earlier before scoped.1 name p) h
  where
    by : (t : Bool) → (Contains (flat_map (item_paths (declared_paths earlier)) (items_behind earlier c)) p → Contains (flat_map (item_paths (declared_paths earlier)) (items_behind earlier c)) (canonical_behind (canonical_path earlier) (reverse (items_behind earlier c)) p)) → (Contains (declared_paths earlier name) p → Contains (declared_paths earlier name) (canonical_path earlier name p)) → Contains (if t then flat_map (item_paths (declared_paths earlier)) (items_behind earlier c) else declared_paths earlier name) p → Contains (if t then flat_map (item_paths (declared_paths earlier)) (items_behind earlier c) else declared_paths earlier name) (if t then canonical_behind (canonical_path earlier) (reverse (items_behind earlier c)) p else canonical_path earlier name p)
    by true a b g = a g
    by false a b g = b g

-- in a file that keeps the rules
pub canonical_declared : (concepts : List ConceptTree) → concepts_fault [] concepts ≡ Ok tt → (name : List ℕ) (p : PathNames) → Contains (declared_paths (reverse concepts) name) p → Contains (declared_paths (reverse concepts) name) (canonical_path (reverse concepts) name p)
canonical_declared concepts kept = canonical_kept (reverse concepts) (kept_are_fitted concepts kept).sound (kept_are_scoped concepts kept)
