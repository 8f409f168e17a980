-- Names that items share.
use Rattle.std.proofs.Common.{◌≡◌, ℕ, Bool, true, false, ◌||◌, List, [], ◌∷◌, ◌++◌, Option, Some, None, refl, sym, ◌∙◌, subst, ⊎_elim}
use Rattle.std.specs.Prelude.{Contains, is_some}
use Rattle.std.specs.Str.{bytes_eq}
use Rattle.std.specs.List.{flat_map, list_any}
use Rattle.std.specs.Option.{option_or}
use Rattle.std.proofs.lemmas.Slice.Eq.{bytes_eq-Decides}
use Rattle.priz_base.proofs.Members.{contains_cases, contains_none}
use Rattle.utopist_syntax.specs.FileTree.{ItemTree}
use Rattle.concept_rules.specs.Declarations.{is_among, declared, names_of, declaration, is_declared}
use Rattle.concept_rules.specs.ConceptRules.{share_name}
use Rattle.concept_rules.proofs.Items.{declaration-append}

pub or_true : (b : Bool) → (b || true) ≡ true
or_true true = refl
or_true false = refl

pub any_append :
    {X : Type 0} (p : X → Bool) (xs ys : List X)
    → list_any p (xs ++ ys) ≡ (list_any p xs || list_any p ys)
any_append p [] ys = refl
any_append p (x ∷ xs) ys =
    or_step (p x) (list_any p (xs ++ ys)) (list_any p xs) (list_any p ys) (any_append p xs ys)
  where
    or_step : (b c d e : Bool) → c ≡ (d || e) → (b || c) ≡ ((b || d) || e)
    or_step true c d e h = refl
    or_step false c d e h = h

among_step :
    (i : ItemTree) (items : List ItemTree) (name : List ℕ) (b : Bool)
    → is_among name (declared i) ≡ b → is_declared items name ≡ is_among name (names_of items)
    → is_declared (i ∷ items) name ≡ is_among name (names_of (i ∷ items))
among_step i items name true e rest = rw (any_append (bytes_eq name) (declared i) (names_of items), e) refl
among_step i items name false e rest = rw (any_append (bytes_eq name) (declared i) (names_of items), e) rest

-- a name is declared where it is one of those that the items declare
pub declared_among :
    (items : List ItemTree) (name : List ℕ)
    → is_declared items name ≡ is_among name (names_of items)
declared_among [] name = refl
declared_among (i ∷ items) name =
    among_step i items name (is_among name (declared i)) refl (declared_among items name)

any_step :
    (n : List ℕ) (ns : List (List ℕ)) (name : List ℕ) (p : List ℕ → Bool) (b : Bool)
    → bytes_eq name n ≡ b → is_among name (n ∷ ns) ≡ true → p name ≡ true
    → (is_among name ns ≡ true → list_any p ns ≡ true) → list_any p (n ∷ ns) ≡ true
any_step n ns name p true e h t rest =
    let here : p n ≡ true = subst (λ m. p m ≡ true) ((bytes_eq-Decides name n).0 e) t in
    rw here refl
any_step n ns name p false e h t rest = rw (rest (rw e at h)) (or_true (p n))

-- one of the names passes a test, where a name among them does
pub any_of :
    (ns : List (List ℕ)) (name : List ℕ) (p : List ℕ → Bool) → is_among name ns ≡ true
    → p name ≡ true → list_any p ns ≡ true
any_of [] name p h t = absurd (cc)
any_of (n ∷ ns) name p h t =
    any_step n ns name p (bytes_eq name n) refl h t (λ g. any_of ns name p g t)

-- items that share no name
pub not_shared :
    (items others : List ItemTree) (name : List ℕ) → share_name items others ≡ false
    → is_declared items name ≡ true → is_declared others name ≡ true → ⊥
not_shared items others name h a b =
    let t = any_of (names_of items) name (is_declared others) (sym (declared_among items name) ∙ a) b in
    absurd (cc)

some_or : (o p : Option ItemTree) → is_some p ≡ true → is_some (option_or o p) ≡ true
some_or None p h = h
some_or (Some i) p h = refl

some_first : (o p : Option ItemTree) → is_some o ≡ true → is_some (option_or o p) ≡ true
some_first None p h = absurd (cc)
some_first (Some i) p h = refl

pub declared_first :
    (xs ys : List ItemTree) (name : List ℕ) → is_declared xs name ≡ true
    → is_declared (xs ++ ys) name ≡ true
declared_first xs ys name h = rw (declaration-append xs ys name) (some_first (declaration xs name) (declaration ys name) h)

pub declared_behind :
    (xs ys : List ItemTree) (name : List ℕ) → is_declared ys name ≡ true
    → is_declared (xs ++ ys) name ≡ true
declared_behind xs ys name h = rw (declaration-append xs ys name) (some_or (declaration xs name) (declaration ys name) h)

-- what one of these concepts declares is declared by all of them
pub declared_in :
    (g : ℕ → List ItemTree) (line : List ℕ) (n : ℕ) (name : List ℕ) → Contains line n
    → is_declared (g n) name ≡ true → is_declared (flat_map g line) name ≡ true
declared_in g [] n name c h = absurd (contains_none n c)
declared_in g (m ∷ line) n name c h =
    ⊎_elim
    (λ e. declared_first (g m) (flat_map g line) name (subst (λ k. is_declared (g k) name ≡ true) (sym e) h))
    (λ d. declared_behind (g m) (flat_map g line) name (declared_in g line n name d h))
    (contains_cases m line n c)
