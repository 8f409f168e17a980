-- Whether a name is among others.
use Rattle.std.proofs.Common.{◌≡◌, ℕ, Bool, true, false, ◌||◌, List, [], ◌∷◌, ◌++◌, refl, sym, ap, ◌∙◌, ⊎_elim}
use Rattle.std.specs.Prelude.{Contains, IsTrue, ◌↔◌}
use Rattle.std.specs.Str.{bytes_eq}
use Rattle.std.proofs.lemmas.Slice.Eq.{bytes_eq-Decides}
use Rattle.std.proofs.lemmas.List.Folds.{list_any-append}
use Rattle.std.proofs.lemmas.Map.Views.{Contains-from_any}
use Rattle.priz_base.proofs.Members.{contains_none, contains_cases}
use Rattle.concept_rules.specs.Declarations.{is_among}
use Rattle.concept_rules.proofs.Lookup.{false_of}

or_true : (b : Bool) → (b || true) ≡ true
or_true true = refl
or_true false = refl

among_at :
    (x : List ℕ) (xs : List (List ℕ)) (name : List ℕ) → bytes_eq name x ≡ true
    → is_among name (x ∷ xs) ≡ true
among_at x xs name e = rw e refl

-- a name that is one of the names is among them
pub among :
    (name : List ℕ) (names : List (List ℕ)) → Contains names name → is_among name names ≡ true
among name [] c = absurd (contains_none name c)
among name (x ∷ xs) c =
    ⊎_elim (λ s. among_at x xs name ((bytes_eq-Decides name x).1 (sym s))) (λ h. ap (λ b. bytes_eq name x || b) (among name xs h) ∙ or_true (bytes_eq name x)) (contains_cases x xs name c)

pub listed :
    (name : List ℕ) (names : List (List ℕ)) → is_among name names ≡ true → Contains names name
listed name names t =
    Contains-from_any {eq = bytes_eq} (λ x y e. (bytes_eq-Decides x y).0 e) name names t

-- a test that holds exactly where the name is one of the names
pub decided :
    (b : Bool) (name : List ℕ) (names : List (List ℕ)) → (IsTrue b ↔ Contains names name)
    → b ≡ is_among name names
decided true name names h = sym (among name names (h.0 refl))
decided false name names h = sym (false_of (is_among name names) (λ t. let s = h.1 (listed name names t) in cc))

-- of two lists of names neither has the name
pub in_neither :
    (name : List ℕ) (xs ys : List (List ℕ)) → is_among name xs ≡ false → is_among name ys ≡ false
    → is_among name (xs ++ ys) ≡ false
in_neither name xs ys e d =
    list_any-append (bytes_eq name) xs ys ∙ ap (λ b. b || is_among name ys) e ∙ d
