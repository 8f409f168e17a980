-- A canonical path is its own canonical path.
use Rattle.std.proofs.Common.{◌≡◌, ◌⊎◌, inl, inr, ℕ, List, [], ◌∷◌, ◌++◌, Bool, true, false, Option, Some, None, length, refl, sym, ap, ◌∙◌, subst}
use Rattle.std.specs.Prelude.{if◌then◌else◌, fold, drop, reverse, ⊤}
use Rattle.std.specs.Str.{bytes_eq}
use Rattle.std.specs.Option.{option_map_or}
use Rattle.utopist_syntax.specs.declared.item.Bind.{Bind}
use Rattle.utopist_syntax.specs.declared.item.VarKind.{VarKind}
use Rattle.utopist_syntax.specs.declared.item.VarKind.TheVariants.{Numeric, Of}
use Rattle.utopist_syntax.specs.FileTree.{ItemTree, ConceptTree}
use Rattle.concept_rules.specs.Declarations.{is_among, declared, Variable, variable_of}
use Rattle.name_sets.specs.Paths.{is_prefix}
use Rattle.canonical_paths.specs.PathNames.{PathNames, names_in}
use Rattle.canonical_paths.specs.Canonical.{rebind, rebound, canonical_in_kind, behind_variable, canonical_behind, items_behind, canonical_path}
use Rattle.canonical_paths.specs.Scoped.{LeadsTo, AllLeadTo, IsScoped, AreScoped, ConceptsAreScoped}
use Rattle.canonical_paths.proofs.DeclaredBy.{Declares, Undeclared, declares, undeclared}

abbrev pub Again : (PathNames → PathNames) → Type 0
Again f = (p : PathNames) → f (f p) ≡ f p

-- a path that begins with a name of these items
pub record Known (items : List ItemTree) (p : PathNames) : Type 0 where
  pub first : List ℕ
  pub rest : PathNames
  pub is : p ≡ first ∷ rest
  pub known : Declares items first

-- no item both declares a name and doesn't
pub never_both : (items : List ItemTree) (name : List ℕ) → Declares items name → Undeclared name items → ⊥
never_both [] name h k = h
never_both (i ∷ items) name (inl h) k = absurd (both_values (is_among name (declared i)) h k.0)
  where
    both_values : (b : Bool) → b ≡ true → b ≡ false → ⊥
    both_values b e f = cc
never_both (i ∷ items) name (inr h) k = never_both items name h k.1

decided : (items : List ItemTree) (name : List ℕ) → Declares items name ⊎ Undeclared name items
decided [] name = inr tt
decided (i ∷ items) name = by (is_among name (declared i)) refl (decided items name)
  where
    by : (b : Bool) → is_among name (declared i) ≡ b → Declares items name ⊎ Undeclared name items → Declares (i ∷ items) name ⊎ Undeclared name (i ∷ items)
    by true e d = inl (inl e)
    by false e (inl d) = inl (inr d)
    by false e (inr d) = inr (e, d)

-- what was found among bindings begins with a name of the items that they lead to
abbrev pub FoundKnown : List ItemTree → Option PathNames → Type 0
FoundKnown items None = ⊤
FoundKnown items (Some p) = Known items p

found_one : (items : List ItemTree) (q : PathNames) (found : Option PathNames) (b : Bind) → LeadsTo items b → FoundKnown items found → FoundKnown items (rebind q found b)
found_one items q found b l k = by (is_prefix (names_in b.left) q)
  where
    by : (t : Bool) → FoundKnown items (if t then Some (names_in b.right ++ drop (length (names_in b.left)) q) else found)
    by true = record {
      first = l.first;
      rest = l.rest ++ drop (length (names_in b.left)) q;
      is = ap (λ (r : PathNames). r ++ drop (length (names_in b.left)) q) l.is;
      known = declares items l.first l.known;
    }
    by false = k

pub found_all : (items : List ItemTree) (q : PathNames) (found : Option PathNames) (binds : List Bind) → AllLeadTo items binds → FoundKnown items found → FoundKnown items (fold (rebind q) found binds)
found_all items q found [] l k = k
found_all items q found (b ∷ binds) l k = found_all items q (rebind q found b) binds l.1 (found_one items q found b l.0 k)

-- canonical paths behind items: they begin with names of the items where the path does, and are their own canonical paths
pub record Good (f : PathNames → PathNames) (items : List ItemTree) : Type 0 where
  pub own : (s : List ℕ) → f (s ∷ []) ≡ s ∷ []
  pub heads : (s : List ℕ) (r : PathNames) → Declares items s → Known items (f (s ∷ r))
  pub others : (s : List ℕ) (r : PathNames) → Undeclared s items → f (s ∷ r) ≡ s ∷ r
  pub again : Again f

module _ (inside : List ℕ → PathNames → PathNames) (h : (type : List ℕ) → Again (inside type)) where
  kind_again : (k : VarKind) → Again (canonical_in_kind inside k)
  kind_again Numeric p = refl
  kind_again (Of type) p = h type.text p

  module _ (i : ItemTree) (before : List ItemTree) (next : IsScoped i before) (g : Good (canonical_behind inside before) before) where
    abbrev older : PathNames → PathNames
    older = canonical_behind inside before

    abbrev all : PathNames → PathNames
    all = canonical_behind inside (i ∷ before)

    here : (s n : List ℕ) (r : PathNames) → is_among s (declared i) ≡ true → all (s ∷ n ∷ r) ≡ behind_variable inside older s (variable_of i) (n ∷ r)
    here s n r e = ap (λ t. if t then behind_variable inside older s (variable_of i) (n ∷ r) else older (s ∷ n ∷ r)) e

    elsewhere : (s n : List ℕ) (r : PathNames) → is_among s (declared i) ≡ false → all (s ∷ n ∷ r) ≡ older (s ∷ n ∷ r)
    elsewhere s n r e = ap (λ t. if t then behind_variable inside older s (variable_of i) (n ∷ r) else older (s ∷ n ∷ r)) e

    not_here : (s : List ℕ) → Declares before s → is_among s (declared i) ≡ false
    not_here s d = by (is_among s (declared i)) refl
      where
        by : (b : Bool) → is_among s (declared i) ≡ b → is_among s (declared i) ≡ false
        by true e = absurd (never_both before s d (undeclared before s (next.new s e)))
        by false e = e

    as_older : (s : List ℕ) (r : PathNames) → is_among s (declared i) ≡ false → all (s ∷ r) ≡ older (s ∷ r)
    as_older s [] e = sym (g.own s)
    as_older s (n ∷ r) e = elsewhere s n r e

    older_again : (p : PathNames) → Known before p → all (older p) ≡ older p
    older_again p k =
        let o = g.heads k.first k.rest k.known in
        let is : older p ≡ o.first ∷ o.rest = ap older k.is ∙ o.is in
        ap all is ∙ as_older o.first o.rest (not_here o.first o.known) ∙ sym (ap older is) ∙ g.again p

    module _ (s : List ℕ) (e : is_among s (declared i) ≡ true) where
      abbrev IsEnd : PathNames → Type 0
      IsEnd p = Known (i ∷ before) p × (all p ≡ p)

      same : (q : PathNames) (v : Variable) → variable_of i ≡ Some v → canonical_in_kind inside v.kind q ≡ q → rebound v.binds q ≡ None → all (s ∷ q) ≡ s ∷ q
      same [] v is k b = refl
      same (m ∷ q) v is k b =
          here s m q e
          ∙ ap (λ (w : Option Variable). behind_variable inside older s w (m ∷ q)) is
          ∙ ap (λ (x : PathNames). option_map_or older (rebound v.binds x) (s ∷ x)) k
          ∙ ap (λ (o : Option PathNames). option_map_or older o (s ∷ m ∷ q)) b

      ended : (v : Variable) (q : PathNames) (found : Option PathNames) → variable_of i ≡ Some v → canonical_in_kind inside v.kind q ≡ q → rebound v.binds q ≡ found → FoundKnown before found → IsEnd (option_map_or older found (s ∷ q))
      ended v q None is k b f = (record { first = s; rest = q; is = refl; known = inl e }, same q v is k b)
      ended v q (Some p) is k b f =
          let o = g.heads f.first f.rest f.known in
          (record { first = o.first; rest = o.rest; is = ap older f.is ∙ o.is; known = inr o.known }, older_again p f)

      bare : (q : PathNames) → variable_of i ≡ None → all (s ∷ q) ≡ s ∷ q
      bare [] is = refl
      bare (m ∷ q) is = here s m q e ∙ ap (λ (w : Option Variable). behind_variable inside older s w (m ∷ q)) is

      by_variable : (w : Option Variable) → variable_of i ≡ w → (n : List ℕ) (r : PathNames) → IsEnd (behind_variable inside older s w (n ∷ r))
      by_variable None is n r = (record { first = s; rest = n ∷ r; is = refl; known = inl e }, bare (n ∷ r) is)
      by_variable (Some v) is n r =
          let q = canonical_in_kind inside v.kind (n ∷ r) in
          ended v q (rebound v.binds q) is (kind_again v.kind (n ∷ r)) refl (found_all before q None v.binds (next.leads v is) tt)

      end : (r : PathNames) → IsEnd (all (s ∷ r))
      end [] = (record { first = s; rest = []; is = refl; known = inl e }, refl)
      end (n ∷ r) = subst IsEnd (sym (here s n r e)) (by_variable (variable_of i) refl n r)

    heads : (s : List ℕ) (r : PathNames) → Declares (i ∷ before) s → Known (i ∷ before) (all (s ∷ r))
    heads s r (inl e) = (end s e r).0
    heads s r (inr d) =
        let o = g.heads s r d in
        record { first = o.first; rest = o.rest; is = as_older s r (not_here s d) ∙ o.is; known = inr o.known }

    others : (s : List ℕ) (r : PathNames) → Undeclared s (i ∷ before) → all (s ∷ r) ≡ s ∷ r
    others s r u = as_older s r u.0 ∙ g.others s r u.1

    again : Again all
    again [] = refl
    again (s ∷ r) = by (decided (i ∷ before) s)
      where
        by : Declares (i ∷ before) s ⊎ Undeclared s (i ∷ before) → all (all (s ∷ r)) ≡ all (s ∷ r)
        by (inl (inl e)) = (end s e r).1
        by (inl (inr d)) =
            let o = as_older s r (not_here s d) in
            ap all o ∙ older_again (s ∷ r) (record { first = s; rest = r; is = refl; known = d }) ∙ sym o
        by (inr u) = ap all (others s r u)

    step : Good all (i ∷ before)
    step = record { own = λ s. refl; heads = heads; others = others; again = again }

  pub good : (items : List ItemTree) → AreScoped items → Good (canonical_behind inside items) items
  good [] a = record { own = λ s. refl; heads = λ s r d. absurd d; others = λ s r u. refl; again = λ p. refl }
  good (i ∷ before) a = step i before a.0 (good before a.1)

-- one of two such functions, as a test says
either_again : (b : Bool) (f g : PathNames → PathNames) → Again f → Again g → Again (λ p. if b then f p else g p)
either_again true f g h k = h
either_again false f g h k = k

-- the canonical path of a canonical path is that path
pub canonical_again : (concepts : List ConceptTree) → ConceptsAreScoped concepts → (name : List ℕ) (p : PathNames) → canonical_path concepts name (canonical_path concepts name p) ≡ canonical_path concepts name p
canonical_again [] a name p = refl
canonical_again (c ∷ earlier) a name p =
    either_again (bytes_eq c.name.text name) (canonical_behind (canonical_path earlier) (reverse (items_behind earlier c))) (canonical_path earlier name)
    (good (canonical_path earlier) (canonical_again earlier a.1) (reverse (items_behind earlier c)) a.0).again
    (canonical_again earlier a.1 name)
    p
