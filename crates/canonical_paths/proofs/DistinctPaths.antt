-- The declared paths of a concept differ.
use Rattle.std.proofs.Common.{◌≡◌, ◌≢◌, ℕ, zero, suc, ◌+◌, ◌<◌, Bool, true, false, List, [], ◌∷◌, ◌++◌, Option, Some, None, Ok, map, length, refl, sym, ap, ◌∙◌, subst, ⊎_elim, append_assoc, append-nil, get_or, arith}
use Rattle.std.specs.Prelude.{if◌then◌else◌, reverse, slice_get, option_map, Contains, All}
use Rattle.std.specs.Str.{bytes_eq}
use Rattle.std.specs.List.{flat_map}
use Rattle.std.proofs.lemmas.Bool.{both_ways}
use Rattle.std.proofs.lemmas.Grind.{flat_map-append}
use Rattle.std.proofs.lemmas.List.Elements.{Contains-append_right}
use Rattle.std.proofs.lemmas.Option.{slice_get_within, slice_get-map, get_or_from_slice_get, same_Some, none-some}
use Rattle.priz_base.proofs.Members.{contains_here}
use Rattle.name_sets.proofs.Spelt.{member_at}
use Rattle.utopist_syntax.specs.Named.{Named}
use Rattle.utopist_syntax.specs.FileTree.{ItemTree, var, eq, rel, ConceptTree}
use Rattle.name_sets.specs.Paths.{texts}
use Rattle.concept_rules.specs.Declarations.{is_among, declared, is_declared}
use Rattle.concept_rules.specs.ConceptRules.{concepts_fault}
use Rattle.canonical_paths.specs.PathNames.{PathNames}
use Rattle.canonical_paths.specs.Canonical.{items_behind}
use Rattle.canonical_paths.specs.DeclaredPaths.{paths_in_kind, variable_paths, item_paths, declared_paths}
use Rattle.utopist_syntax.specs.declared.item.VarKind.{VarKind}
use Rattle.utopist_syntax.specs.declared.item.VarKind.TheVariants.{Numeric, Of}
use Rattle.canonical_paths.specs.Scoped.{AreScoped, ConceptsAreScoped}
use Rattle.canonical_paths.specs.steps.Fitting.{AreOnce, Fits, AllFit, ConceptsFit}
use Rattle.canonical_paths.proofs.Elements.{tails, get_either}
use Rattle.canonical_paths.proofs.Nonempty.{of_item, declared_are_some}
use Rattle.canonical_paths.proofs.FindingPaths.{place_of}
use Rattle.canonical_paths.proofs.GrownLayouts.{new_path}
use Rattle.canonical_paths.proofs.FittingItems.{fit_behind}
use Rattle.canonical_paths.proofs.NextVariable.{begins_named, begins_item, begins_declared, not_before, once_at}
use Rattle.canonical_paths.proofs.CheckedConcepts.{kept_are_scoped}
use Rattle.canonical_paths.proofs.FittingConcepts.{kept_are_fitted}

abbrev AreDistinct : List PathNames → Type 0
AreDistinct ps = (n m : ℕ) (p : PathNames) → slice_get ps n ≡ Some p → slice_get ps m ≡ Some p → n ≡ m

none_distinct : AreDistinct []
none_distinct n m p h k = absurd (none-some p h)

distinct_append : (ps qs : List PathNames) → AreDistinct ps → AreDistinct qs → ((p : PathNames) → Contains ps p → Contains qs p → ⊥) → AreDistinct (ps ++ qs)
distinct_append ps qs d e apart n m p h k =
    ⊎_elim
    (λ a. ⊎_elim (λ b. d n m p a b) (λ b. absurd (apart p (member_at ps n p a) (member_at qs b.0 p b.1.1))) (get_either ps qs m p k))
    (λ a.
    ⊎_elim
    (λ b. absurd (apart p (member_at ps m p b) (member_at qs a.0 p a.1.1)))
    (λ b. let same = e a.0 b.0 p a.1.1 b.1.1 in omega (arith, a.1.0, b.1.0, same))
    (get_either ps qs m p k))
    (get_either ps qs n p h)

-- a path behind a name
behind_name : (name : List ℕ) (ps : List PathNames) (n : ℕ) (q : PathNames) → slice_get (map (λ p. name ∷ p) ps) n ≡ Some q → (p : PathNames) × ((name ∷ p ≡ q) × (slice_get ps n ≡ Some p))
behind_name name ps n q h = by (slice_get ps n) refl (sym (slice_get-map (λ (p : PathNames). name ∷ p) ps n) ∙ h)
  where
    by : (o : Option PathNames) → slice_get ps n ≡ o → option_map (λ (p : PathNames). name ∷ p) o ≡ Some q → (p : PathNames) × ((name ∷ p ≡ q) × (slice_get ps n ≡ Some p))
    by None e f = absurd (cc)
    by (Some p) e f = (p, (same_Some (name ∷ p) q f, e))

some_there : (ps : List PathNames) → All (λ (p : PathNames). p ≢ []) ps → (n : ℕ) (p : PathNames) → slice_get ps n ≡ Some p → p ≡ [] → ⊥
some_there ps some n p h e = some n p (slice_get_within ps n p h) (get_or_from_slice_get ps n p p h ∙ e)

-- the variable's own path isn't one of those inside of it
alone : (name : List ℕ) (ps : List PathNames) → All (λ (p : PathNames). p ≢ []) ps → (m : ℕ) (p : PathNames) → name ∷ [] ≡ p → slice_get (map (λ p. name ∷ p) ps) m ≡ Some p → ⊥
alone name ps some m p e h =
    let a = behind_name name ps m p h in
    let none : [] ≡ a.0 = tails name name [] a.0 (e ∙ sym a.1.0) in
    some_there ps some m a.0 a.1.1 (sym none)

variable_distinct : (name : List ℕ) (ps : List PathNames) → AreDistinct ps → All (λ (p : PathNames). p ≢ []) ps → AreDistinct (variable_paths ps name)
variable_distinct name ps d some zero zero p h k = refl
variable_distinct name ps d some zero (suc m) p h k = absurd (alone name ps some m p (same_Some (name ∷ []) p h) k)
variable_distinct name ps d some (suc n) zero p h k = absurd (alone name ps some n p (same_Some (name ∷ []) p k) h)
variable_distinct name ps d some (suc n) (suc m) p h k =
    let a = behind_name name ps n p h in
    let b = behind_name name ps m p k in
    let same : a.0 ≡ b.0 = tails name name a.0 b.0 (a.1.0 ∙ sym b.1.0) in
    ap suc (d n m b.0 (a.1.1 ∙ ap (λ (q : PathNames). Some q) same) b.1.1)

-- a path that isn't empty
first_of : (p : PathNames) → p ≢ [] → (name : List ℕ) × ((rest : PathNames) × (p ≡ name ∷ rest))
first_of [] h = absurd (h refl)
first_of (name ∷ rest) h = (name, (rest, refl))

of_variable_begins : (ps : List PathNames) (n : Named) (p : PathNames) → Contains (variable_paths ps n.text) p → (rest : PathNames) × (p ≡ n.text ∷ rest)
of_variable_begins ps n p h = let at = place_of (variable_paths ps n.text) p h in new_path ps n.text at.0 p at.1

names_distinct : (ps : List PathNames) (done more : List Named) → AreDistinct ps → All (λ (p : PathNames). p ≢ []) ps → AreOnce [] (done ++ more) → AreDistinct (flat_map (λ n. variable_paths ps n.text) done) → AreDistinct (flat_map (λ n. variable_paths ps n.text) (done ++ more))
names_distinct ps done [] d some once h = subst (λ (ns : List Named). AreDistinct (flat_map (λ n. variable_paths ps n.text) ns)) (sym (append-nil done)) h
names_distinct ps done (n ∷ more) d some once h =
    let f : Named → List PathNames = λ n. variable_paths ps n.text in
    let step : AreDistinct (flat_map f (done ++ n ∷ [])) =
    subst AreDistinct (sym (flat_map-append f done (n ∷ []) ∙ ap (λ (qs : List PathNames). flat_map f done ++ qs) (append-nil (f n))))
    (distinct_append (flat_map f done) (f n) h (variable_distinct n.text ps d some)
    (λ p a b.
    let r = of_variable_begins ps n p b in
    let own = begins_named ps done n.text r.0 (subst (Contains (flat_map f done)) r.1 a) in
    both_ways (is_among n.text (texts done)) (once_at [] done n more once) own)) in
    subst (λ (ns : List Named). AreDistinct (flat_map f ns)) (append_assoc done (n ∷ []) more)
    (names_distinct ps (done ++ n ∷ []) more d some (subst (AreOnce []) (sym (append_assoc done (n ∷ []) more)) once) step)

-- what is inside of types is given
module _ (inside : List ℕ → List PathNames) (distinct : (name : List ℕ) → AreDistinct (inside name)) (some : (name : List ℕ) → All (λ (p : PathNames). p ≢ []) (inside name)) (concepts : List ConceptTree) where
  kind_distinct : (kind : VarKind) → AreDistinct (paths_in_kind inside kind)
  kind_distinct Numeric = none_distinct
  kind_distinct (Of type) = distinct type.text

  kind_some : (kind : VarKind) → All (λ (p : PathNames). p ≢ []) (paths_in_kind inside kind)
  kind_some Numeric k d h = absurd (omega (arith, h))
  kind_some (Of type) k d h = some type.text k d h

  item_distinct : (before : List ItemTree) (i : ItemTree) → Fits concepts before i → AreDistinct (item_paths inside i)
  item_distinct before (var names kind binds) f = names_distinct (paths_in_kind inside kind) [] names (kind_distinct kind) (kind_some kind) f.once none_distinct
  item_distinct before (eq left right) f = none_distinct
  item_distinct before (rel n parts output body) f = none_distinct

  item_begins : (i : ItemTree) (p : PathNames) → Contains (item_paths inside i) p → (name : List ℕ) × ((rest : PathNames) × (p ≡ name ∷ rest))
  item_begins i p h =
      let at = place_of (item_paths inside i) p h in
      first_of p (some_there (item_paths inside i) (of_item inside i) at.0 p at.1)

  items_distinct : (done more : List ItemTree) → AreScoped (reverse (done ++ more)) → AllFit concepts [] (done ++ more) → AreDistinct (flat_map (item_paths inside) done) → AreDistinct (flat_map (item_paths inside) (done ++ more))
  items_distinct done [] scoped fit h = subst (λ (is : List ItemTree). AreDistinct (flat_map (item_paths inside) is)) (sym (append-nil done)) h
  items_distinct done (i ∷ more) scoped fit h =
      let f : ItemTree → List PathNames = item_paths inside in
      let own = (fit_behind concepts [] done (i ∷ more) fit).0 in
      let step : AreDistinct (flat_map f (done ++ i ∷ [])) =
      subst AreDistinct (sym (flat_map-append f done (i ∷ []) ∙ ap (λ (qs : List PathNames). flat_map f done ++ qs) (append-nil (f i))))
      (distinct_append (flat_map f done) (f i) h (item_distinct done i own)
      (λ p a b.
      let r = item_begins i p b in
      let here = begins_item inside i r.0 r.1.0 (subst (Contains (f i)) r.1.1 b) in
      let there = begins_declared inside done r.0 r.1.0 (subst (Contains (flat_map f done)) r.1.1 a) in
      both_ways (is_declared done r.0) (not_before (done ++ i ∷ more) scoped done i more r.0 refl here) there)) in
      subst (λ (is : List ItemTree). AreDistinct (flat_map f is)) (append_assoc done (i ∷ []) more)
      (items_distinct (done ++ i ∷ []) more
      (subst (λ (is : List ItemTree). AreScoped (reverse is)) (sym (append_assoc done (i ∷ []) more)) scoped)
      (subst (AllFit concepts []) (sym (append_assoc done (i ∷ []) more)) fit) step)

paths_distinct : (concepts : List ConceptTree) → ConceptsAreScoped concepts → ConceptsFit concepts → (name : List ℕ) → AreDistinct (declared_paths concepts name)
paths_distinct [] scoped fit name = none_distinct
paths_distinct (c ∷ earlier) scoped fit name =
    by (bytes_eq c.name.text name)
    (items_distinct (declared_paths earlier) (paths_distinct earlier scoped.1 fit.1) (declared_are_some earlier) earlier [] (items_behind earlier c) scoped.0 fit.0 none_distinct)
    (paths_distinct earlier scoped.1 fit.1 name)
  where
    by : (t : Bool) → AreDistinct (flat_map (item_paths (declared_paths earlier)) (items_behind earlier c)) → AreDistinct (declared_paths earlier name) → AreDistinct (if t then flat_map (item_paths (declared_paths earlier)) (items_behind earlier c) else declared_paths earlier name)
    by true a b = a
    by false a b = b

-- in a file that keeps the rules
pub declared_differ : (concepts : List ConceptTree) → concepts_fault [] concepts ≡ Ok tt → (name : List ℕ) (n m : ℕ) (p : PathNames) → slice_get (declared_paths (reverse concepts) name) n ≡ Some p → slice_get (declared_paths (reverse concepts) name) m ≡ Some p → n ≡ m
declared_differ concepts kept name = paths_distinct (reverse concepts) (kept_are_scoped concepts kept) (kept_are_fitted concepts kept).sound.fit name
