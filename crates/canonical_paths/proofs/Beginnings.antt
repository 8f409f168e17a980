-- Each beginning of a canonical path is canonical.
use Rattle.std.proofs.Common.{◌≡◌, ℕ, List, [], ◌∷◌, ◌++◌, Bool, true, false, Option, Some, None, length, refl, sym, ap, ◌∙◌, subst}
use Rattle.std.specs.Prelude.{if◌then◌else◌, fold, drop, reverse}
use Rattle.std.specs.Str.{bytes_eq}
use Rattle.std.specs.Option.{option_map_or}
use Rattle.std.proofs.lemmas.Bool.{false_from_ne_true, both_ways}
use Rattle.utopist_syntax.specs.declared.item.Bind.{Bind}
use Rattle.utopist_syntax.specs.declared.item.VarKind.{VarKind}
use Rattle.utopist_syntax.specs.declared.item.VarKind.TheVariants.{Numeric, Of}
use Rattle.utopist_syntax.specs.FileTree.{ItemTree, ConceptTree}
use Rattle.concept_rules.specs.Declarations.{is_among, declared, Variable, variable_of}
use Rattle.name_sets.specs.Paths.{is_prefix}
use Rattle.name_sets.proofs.Prefixes.{prefix_append, prefix_trans}
use Rattle.canonical_paths.specs.PathNames.{PathNames, names_in}
use Rattle.canonical_paths.specs.Canonical.{rebind, rebound, canonical_in_kind, behind_variable, canonical_behind, items_behind, canonical_path}
use Rattle.canonical_paths.specs.Scoped.{IsScoped, AreScoped, ConceptsAreScoped}
use Rattle.canonical_paths.proofs.DeclaredBy.{Declares, undeclared}
use Rattle.canonical_paths.proofs.Elements.{heads, tails}
use Rattle.canonical_paths.proofs.CanonicalAgain.{Again, Good, FoundKnown, never_both, found_all, good, canonical_again}

-- of a path that stands for itself each beginning does too
abbrev Begins : (PathNames → PathNames) → Type 0
Begins f = (p more : PathNames) → f (p ++ more) ≡ p ++ more → f p ≡ p

abbrev nothing : Option PathNames
nothing = None

-- where bindings find nothing for a path, they find nothing for its beginning
record IsUnbound (q : PathNames) (found : Option PathNames) (b : Bind) : Type 0 where
  test : is_prefix (names_in b.left) q ≡ false
  none : found ≡ nothing

unbound : (q : PathNames) (found : Option PathNames) (b : Bind) → rebind q found b ≡ nothing → IsUnbound q found b
unbound q found b = by (is_prefix (names_in b.left) q) refl
  where
    by : (t : Bool) → is_prefix (names_in b.left) q ≡ t → (if t then Some (names_in b.right ++ drop (length (names_in b.left)) q) else found) ≡ nothing → IsUnbound q found b
    by true e h = absurd (cc)
    by false e h = record { test = e; none = h }

start_none : (q : PathNames) (found : Option PathNames) (binds : List Bind) → fold (rebind q) found binds ≡ nothing → found ≡ nothing
start_none q found [] h = h
start_none q found (b ∷ binds) h = (unbound q found b (start_none q (rebind q found b) binds h)).none

no_prefix : (l p more : PathNames) → is_prefix l (p ++ more) ≡ false → is_prefix l p ≡ false
no_prefix l p more h = false_from_ne_true (is_prefix l p) (λ e. both_ways (is_prefix l (p ++ more)) h (prefix_trans l p (p ++ more) e (prefix_append p more)))

none_before : (p more : PathNames) (binds : List Bind) → fold (rebind (p ++ more)) nothing binds ≡ nothing → fold (rebind p) nothing binds ≡ nothing
none_before p more [] h = refl
none_before p more (b ∷ binds) h =
    let u = unbound (p ++ more) nothing b (start_none (p ++ more) (rebind (p ++ more) nothing b) binds h) in
    let whole : rebind (p ++ more) nothing b ≡ nothing = ap (λ t. if t then Some (names_in b.right ++ drop (length (names_in b.left)) (p ++ more)) else nothing) u.test in
    let part : rebind p nothing b ≡ nothing = ap (λ t. if t then Some (names_in b.right ++ drop (length (names_in b.left)) p) else nothing) (no_prefix (names_in b.left) p more u.test) in
    ap (λ o. fold (rebind p) o binds) part
    ∙ none_before p more binds (sym (ap (λ o. fold (rebind (p ++ more)) o binds) whole) ∙ h)

module _ (inside : List ℕ → PathNames → PathNames) (h : (type : List ℕ) → Again (inside type)) (b : (type : List ℕ) → Begins (inside type)) where
  kind_begins : (k : VarKind) → Begins (canonical_in_kind inside k)
  kind_begins Numeric p more e = refl
  kind_begins (Of type) p more e = b type.text p more e

  module _ (i : ItemTree) (before : List ItemTree) (next : IsScoped i before) (g : Good (canonical_behind inside before) before) (j : Begins (canonical_behind inside before)) where
    abbrev older : PathNames → PathNames
    older = canonical_behind inside before

    abbrev all : PathNames → PathNames
    all = canonical_behind inside (i ∷ before)

    module _ (s n : List ℕ) (r more : PathNames) where
      -- what all items give for the path is what a test and the variable say
      abbrev result : Bool → Option Variable → PathNames → PathNames
      result t w q = if t then behind_variable inside older s w (n ∷ q) else older (s ∷ n ∷ q)

      ended : is_among s (declared i) ≡ true → (v : Variable) (found : Option PathNames) → rebound v.binds (canonical_in_kind inside v.kind (n ∷ r ++ more)) ≡ found → FoundKnown before found → option_map_or older found (s ∷ canonical_in_kind inside v.kind (n ∷ r ++ more)) ≡ s ∷ n ∷ r ++ more → option_map_or older (rebound v.binds (canonical_in_kind inside v.kind (n ∷ r))) (s ∷ canonical_in_kind inside v.kind (n ∷ r)) ≡ s ∷ n ∷ r
      ended e v None f k c =
          let q : canonical_in_kind inside v.kind ((n ∷ r) ++ more) ≡ (n ∷ r) ++ more = tails s s _ _ c in
          let p : canonical_in_kind inside v.kind (n ∷ r) ≡ n ∷ r = kind_begins v.kind (n ∷ r) more q in
          let u : rebound v.binds ((n ∷ r) ++ more) ≡ nothing = sym (ap (rebound v.binds) q) ∙ f in
          ap (λ (x : PathNames). option_map_or older (rebound v.binds x) (s ∷ x)) p
          ∙ ap (λ (o : Option PathNames). option_map_or older o (s ∷ n ∷ r)) (none_before (n ∷ r) more v.binds u)
      ended e v (Some p) f k c =
          let o = g.heads k.first k.rest k.known in
          let is : older p ≡ o.first ∷ o.rest = ap older k.is ∙ o.is in
          let same : o.first ≡ s = heads o.first s _ _ (sym is ∙ c) in
          absurd (never_both before s (subst (λ (m : List ℕ). Declares before m) same o.known) (undeclared before s (next.new s e)))

      by_variable : (w : Option Variable) → variable_of i ≡ w → is_among s (declared i) ≡ true → behind_variable inside older s w (n ∷ r ++ more) ≡ s ∷ n ∷ r ++ more → behind_variable inside older s w (n ∷ r) ≡ s ∷ n ∷ r
      by_variable None is e c = refl
      by_variable (Some v) is e c =
          ended e v (rebound v.binds (canonical_in_kind inside v.kind (n ∷ r ++ more))) refl
          (found_all before (canonical_in_kind inside v.kind (n ∷ r ++ more)) None v.binds (next.leads v is) tt) c

      by_test : (t : Bool) → is_among s (declared i) ≡ t → result t (variable_of i) (r ++ more) ≡ s ∷ n ∷ r ++ more → result t (variable_of i) r ≡ s ∷ n ∷ r
      by_test true e c = by_variable (variable_of i) refl e c
      by_test false e c = j (s ∷ n ∷ r) more c

    begins : Begins all
    begins [] more c = refl
    begins (s ∷ []) more c = refl
    begins (s ∷ n ∷ r) more c = by_test s n r more (is_among s (declared i)) refl c

  all_begin : (items : List ItemTree) → AreScoped items → Begins (canonical_behind inside items)
  all_begin [] a p more c = refl
  all_begin (i ∷ before) a p more c = begins i before a.0 (good inside h before a.1) (all_begin before a.1) p more c

either_begins : (t : Bool) (f g : PathNames → PathNames) → Begins f → Begins g → Begins (λ p. if t then f p else g p)
either_begins true f g h k = h
either_begins false f g h k = k

-- each beginning of a path that is its own canonical path is its own
pub canonical_begins : (concepts : List ConceptTree) → ConceptsAreScoped concepts → (name : List ℕ) (p more : PathNames) → canonical_path concepts name (p ++ more) ≡ p ++ more → canonical_path concepts name p ≡ p
canonical_begins [] a name p more c = refl
canonical_begins (x ∷ earlier) a name p more c =
    either_begins (bytes_eq x.name.text name) (canonical_behind (canonical_path earlier) (reverse (items_behind earlier x))) (canonical_path earlier name)
    (all_begin (canonical_path earlier) (canonical_again earlier a.1) (canonical_begins earlier a.1) (reverse (items_behind earlier x)) a.0)
    (canonical_begins earlier a.1 name)
    p more c
