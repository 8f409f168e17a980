-- Items that are scoped behind others, in order.
use Rattle.std.proofs.Common.{◌≡◌, ℕ, Bool, true, false, List, [], ◌∷◌, ◌++◌, Some, refl, sym, ap, ◌∙◌, subst, append_assoc, append-nil}
use Rattle.std.specs.Prelude.{if◌then◌else◌, is_some, reverse, ⊤}
use Rattle.std.proofs.lemmas.Bool.{both_ways, false_from_ne_true}
use Rattle.std.proofs.lemmas.List.{reverse-append}
use Rattle.utopist_syntax.specs.declared.item.Bind.{Bind}
use Rattle.utopist_syntax.specs.FileTree.{ItemTree}
use Rattle.concept_rules.specs.Declarations.{is_among, declared, declaration, is_declared}
use Rattle.concept_rules.proofs.Sharing.{declared_first, declared_behind}
use Rattle.canonical_paths.specs.Scoped.{AllLeadTo, IsScoped, AreScoped}

-- each item is scoped behind these and those before it
abbrev pub ScopedFrom : List ItemTree → List ItemTree → Type 0
ScopedFrom before [] = ⊤
ScopedFrom before (i ∷ items) = IsScoped i before × ScopedFrom (before ++ i ∷ []) items

-- what the first items declare, the others declare too
abbrev pub IsDeclaredBy : List ItemTree → List ItemTree → Type 0
IsDeclaredBy items wide = (name : List ℕ) → is_declared items name ≡ true → is_declared wide name ≡ true

-- no name is declared by both
abbrev pub AreApart : List ItemTree → List ItemTree → Type 0
AreApart items others = (name : List ℕ) → is_declared items name ≡ true → is_declared others name ≡ false

-- whether the first item declares a name, or those behind it
pub by_first : (i : ItemTree) (items : List ItemTree) (name : List ℕ) (t : Bool) → is_among name (declared i) ≡ t → is_declared (i ∷ items) name ≡ is_some (if t then Some i else declaration items name)
by_first i items name t e = ap (λ u. is_some (if u then Some i else declaration items name)) e

pub own_declared : (i : ItemTree) (items : List ItemTree) (name : List ℕ) → is_among name (declared i) ≡ true → is_declared (i ∷ items) name ≡ true
own_declared i items name e = by_first i items name true e

pub rest_declared : (i : ItemTree) (items : List ItemTree) (name : List ℕ) → is_declared items name ≡ true → is_declared (i ∷ items) name ≡ true
rest_declared i items name h = declared_behind (i ∷ []) items name h

-- what the first items don't declare, the others do or don't
pub neither_first : (xs ys : List ItemTree) (name : List ℕ) (b : Bool) → is_declared xs name ≡ false → is_declared ys name ≡ b → is_declared (xs ++ ys) name ≡ b
neither_first [] ys name b f e = e
neither_first (i ∷ xs) ys name b f e = by (is_among name (declared i)) refl (λ g. neither_first xs ys name b g e)
  where
    by : (t : Bool) → is_among name (declared i) ≡ t → (is_declared xs name ≡ false → is_declared (xs ++ ys) name ≡ b) → is_declared (i ∷ (xs ++ ys)) name ≡ b
    by true d k = absurd (both_ways (is_declared (i ∷ xs) name) f (own_declared i xs name d))
    by false d k = by_first i (xs ++ ys) name false d ∙ k (sym (by_first i xs name false d) ∙ f)

-- one of two lists declares what both do
pub either_declares : (P : Type 0) (xs ys : List ItemTree) (name : List ℕ) → is_declared (xs ++ ys) name ≡ true → (is_declared xs name ≡ true → P) → (is_declared ys name ≡ true → P) → P
either_declares P xs ys name h k m = by (is_declared xs name) refl (is_declared ys name) refl
  where
    by : (t : Bool) → is_declared xs name ≡ t → (u : Bool) → is_declared ys name ≡ u → P
    by true d u e = k d
    by false d true e = m e
    by false d false e = absurd (both_ways (is_declared (xs ++ ys) name) (neither_first xs ys name false d e) h)

-- the order of items doesn't matter
pub reverse_declares : (xs : List ItemTree) (name : List ℕ) → is_declared xs name ≡ true → is_declared (reverse xs) name ≡ true
reverse_declares [] name h = h
reverse_declares (i ∷ xs) name h =
    let e : reverse (i ∷ xs) ≡ reverse xs ++ i ∷ [] = reverse-append (i ∷ []) xs in
    subst (λ (ys : List ItemTree). is_declared ys name ≡ true) (sym e)
    (either_declares (is_declared (reverse xs ++ i ∷ []) name ≡ true) (i ∷ []) xs name h
    (λ d. declared_behind (reverse xs) (i ∷ []) name d)
    (λ d. declared_first (reverse xs) (i ∷ []) name (reverse_declares xs name d)))

reverse_lacks : (xs : List ItemTree) (name : List ℕ) → is_declared xs name ≡ false → is_declared (reverse xs) name ≡ false
reverse_lacks [] name h = h
reverse_lacks (i ∷ xs) name h =
    let e : reverse (i ∷ xs) ≡ reverse xs ++ i ∷ [] = reverse-append (i ∷ []) xs in
    let first : is_declared (i ∷ []) name ≡ false = false_from_ne_true (is_declared (i ∷ []) name) (λ d. both_ways (is_declared (i ∷ xs) name) h (declared_first (i ∷ []) xs name d)) in
    let rest : is_declared xs name ≡ false = false_from_ne_true (is_declared xs name) (λ d. both_ways (is_declared (i ∷ xs) name) h (rest_declared i xs name d)) in
    subst (λ (ys : List ItemTree). is_declared ys name ≡ false) (sym e) (neither_first (reverse xs) (i ∷ []) name false (reverse_lacks xs name rest) first)

-- bindings lead to more items too
lead_wide : (before wide : List ItemTree) (binds : List Bind) → IsDeclaredBy before wide → AllLeadTo before binds → AllLeadTo wide binds
lead_wide before wide [] d h = tt
lead_wide before wide (b ∷ binds) d h = (
  record { first = h.0.first; rest = h.0.rest; is = h.0.is; known = d h.0.first h.0.known },
  lead_wide before wide binds d h.1,
)

-- an item is scoped behind other items that declare what it needs, and nothing of its own
item_wide : (i : ItemTree) (before wide : List ItemTree) → IsScoped i before → IsDeclaredBy before wide → ((name : List ℕ) → is_among name (declared i) ≡ true → is_declared wide name ≡ false) → IsScoped i wide
item_wide i before wide s d f = record {
  new = f;
  leads = λ v is. lead_wide before wide v.binds d (s.leads v is);
}

-- items declare nothing that stands before them
pub fresh : (before items : List ItemTree) → ScopedFrom before items → AreApart items before
fresh before [] s name h = absurd (both_ways (is_declared [] name) refl h)
fresh before (i ∷ items) s name h = by (is_among name (declared i)) refl (fresh (before ++ i ∷ []) items s.1 name)
  where
    by : (t : Bool) → is_among name (declared i) ≡ t → (is_declared items name ≡ true → is_declared (before ++ i ∷ []) name ≡ false) → is_declared before name ≡ false
    by true d k = s.0.new name d
    by false d k =
        let none = k (sym (by_first i items name false d) ∙ h) in
        false_from_ne_true (is_declared before name) (λ g. both_ways (is_declared (before ++ i ∷ []) name) none (declared_first before (i ∷ []) name g))

wide_more : (before wide : List ItemTree) (i : ItemTree) → IsDeclaredBy before wide → IsDeclaredBy (before ++ i ∷ []) (wide ++ i ∷ [])
wide_more before wide i d name h =
    either_declares (is_declared (wide ++ i ∷ []) name ≡ true) before (i ∷ []) name h
    (λ g. declared_first wide (i ∷ []) name (d name g))
    (λ g. declared_behind wide (i ∷ []) name g)

-- so it is for items one behind the other
pub widen : (before wide items : List ItemTree) → ScopedFrom before items → IsDeclaredBy before wide → AreApart items wide → ScopedFrom wide items
widen before wide [] s d f = tt
widen before wide (i ∷ items) s d f = (
  item_wide i before wide s.0 d (λ name e. f name (own_declared i items name e)),
  widen (before ++ i ∷ []) (wide ++ i ∷ []) items s.1 (wide_more before wide i d)
      (λ name h.
      neither_first wide (i ∷ []) name false (f name (rest_declared i items name h))
      (false_from_ne_true (is_declared (i ∷ []) name) (λ g.
      both_ways (is_declared (before ++ i ∷ []) name) (fresh (before ++ i ∷ []) items s.1 name h) (declared_behind before (i ∷ []) name g)))),
)

-- items in two parts
pub scoped_append : (before xs ys : List ItemTree) → ScopedFrom before xs → ScopedFrom (before ++ xs) ys → ScopedFrom before (xs ++ ys)
scoped_append before [] ys h k = subst (λ (b : List ItemTree). ScopedFrom b ys) (append-nil before) k
scoped_append before (i ∷ xs) ys h k =
    (h.0, scoped_append (before ++ i ∷ []) xs ys h.1 (subst (λ (b : List ItemTree). ScopedFrom b ys) (sym (append_assoc before (i ∷ []) xs)) k))

pub scoped_behind : (before xs ys : List ItemTree) → ScopedFrom before (xs ++ ys) → ScopedFrom (before ++ xs) ys
scoped_behind before [] ys h = subst (λ (b : List ItemTree). ScopedFrom b ys) (sym (append-nil before)) h
scoped_behind before (i ∷ xs) ys h =
    subst (λ (b : List ItemTree). ScopedFrom b ys) (append_assoc before (i ∷ []) xs) (scoped_behind (before ++ i ∷ []) xs ys h.1)

-- the same with the latest first
turned : (before items : List ItemTree) → AreScoped (reverse before) → ScopedFrom before items → AreScoped (reverse (before ++ items))
turned before [] a s = subst (λ (is : List ItemTree). AreScoped (reverse is)) (sym (append-nil before)) a
turned before (i ∷ items) a s =
    let one : IsScoped i (reverse before) = item_wide i before (reverse before) s.0 (reverse_declares before) (λ name e. reverse_lacks before name (s.0.new name e)) in
    let e : i ∷ reverse before ≡ reverse (before ++ i ∷ []) = sym (reverse-append before (i ∷ [])) in
    subst (λ (is : List ItemTree). AreScoped (reverse is)) (append_assoc before (i ∷ []) items)
    (turned (before ++ i ∷ []) items (subst AreScoped e (one, a)) s.1)

pub all_turned : (items : List ItemTree) → ScopedFrom [] items → AreScoped (reverse items)
all_turned items s = turned [] items tt s

pub scoped_first : (before xs ys : List ItemTree) → ScopedFrom before (xs ++ ys) → ScopedFrom before xs
scoped_first before [] ys h = tt
scoped_first before (i ∷ xs) ys h = (h.0, scoped_first (before ++ i ∷ []) xs ys h.1)
