-- Whether items declare a name, item by item.
use Rattle.std.proofs.Common.{◌≡◌, ◌⊎◌, inl, inr, ℕ, List, [], ◌∷◌, Bool, true, false, Some, refl, sym}
use Rattle.std.specs.Prelude.{if◌then◌else◌, is_some, ⊤}
use Rattle.std.proofs.lemmas.Bool.{both_ways}
use Rattle.utopist_syntax.specs.FileTree.{ItemTree}
use Rattle.concept_rules.specs.Declarations.{is_among, declared, declaration, is_declared}

-- some item declares it
abbrev pub Declares : List ItemTree → List ℕ → Type 0
Declares [] name = ⊥
Declares (i ∷ items) name = (is_among name (declared i) ≡ true) ⊎ Declares items name

-- no item does
abbrev pub Undeclared : List ℕ → List ItemTree → Type 0
Undeclared name [] = ⊤
Undeclared name (i ∷ items) = (is_among name (declared i) ≡ false) × Undeclared name items

first_or : (t : Bool) (i : ItemTree) (items : List ItemTree) (name : List ℕ) (b : Bool) → is_some (if t then Some i else declaration items name) ≡ b → (t ≡ true → b ≡ true) × (t ≡ false → is_declared items name ≡ b)
first_or true i items name b e = (λ t. sym e, λ f. absurd (both_ways true f refl))
first_or false i items name b e = (λ t. absurd (both_ways false refl t), λ f. e)

pub declares : (items : List ItemTree) (name : List ℕ) → is_declared items name ≡ true → Declares items name
declares [] name h = absurd (cc)
declares (i ∷ items) name h =
    by (is_among name (declared i)) refl (λ e. declares items name ((first_or (is_among name (declared i)) i items name true h).1 e))
  where
    by : (t : Bool) → is_among name (declared i) ≡ t → (is_among name (declared i) ≡ false → Declares items name) → Declares (i ∷ items) name
    by true e r = inl e
    by false e r = inr (r e)

pub undeclared : (items : List ItemTree) (name : List ℕ) → is_declared items name ≡ false → Undeclared name items
undeclared [] name h = tt
undeclared (i ∷ items) name h =
    let r = first_or (is_among name (declared i)) i items name false h in
    by (is_among name (declared i)) refl r.0 (λ e. undeclared items name (r.1 e))
  where
    by : (t : Bool) → is_among name (declared i) ≡ t → (is_among name (declared i) ≡ true → false ≡ true) → (is_among name (declared i) ≡ false → Undeclared name items) → Undeclared name (i ∷ items)
    by true e r k = absurd (both_ways false refl (r e))
    by false e r k = (e, k e)
