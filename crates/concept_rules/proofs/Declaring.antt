-- Names that are declared one after another.
use Rattle.std.proofs.Common.{◌≡◌, ◌≢◌, ℕ, ◌<◌, Bool, true, false, ◌||◌, ◌&&◌, List, [], ◌∷◌, ◌++◌, length, take, Some, None, Option, refl, sym, ap, ◌∙◌, AllPairs, arith}
use Rattle.std.specs.Prelude.{if◌then◌else◌, nat_eq}
use Rattle.std.specs.Str.{bytes_eq}
use Rattle.concept_rules.specs.Declarations.{is_among}
use Rattle.concept_rules.specs.steps.DeclaredNames.{Declared, item_in, HasMore}
use Rattle.std.proofs.Common.{get_or}
use Rattle.std.proofs.lemmas.List.{length-take, get_or-take}
use Rattle.concept_rules.proofs.Lookup.{false_of}
use Rattle.concept_rules.proofs.Among.{listed}
use Rattle.concept_rules.proofs.Sharing.{any_append}

-- what adding a name does
abbrev pub AddsOne : Declared → Declared → List ℕ → ℕ → ℕ → Type 0
AddsOne old new text n item = (name : List ℕ) (m : ℕ) → item_in new name m ≡ (if bytes_eq name text && nat_eq n m then Some item else item_in old name m)

pick :
    (a b c : Bool) (o : Option ℕ) (i : ℕ)
    → (if c && b then Some i else (if b && a then Some i else o))
    ≡ (if b && (a || (c || false)) then Some i else o)
pick true true true o i = refl
pick true true false o i = refl
pick true false true o i = refl
pick true false false o i = refl
pick false true true o i = refl
pick false true false o i = refl
pick false false true o i = refl
pick false false false o i = refl

-- one more name
pub more_names :
    (old mid new : Declared) (n item : ℕ) (names : List (List ℕ)) (text : List ℕ)
    → HasMore old mid n item names → AddsOne mid new text n item
    → HasMore old new n item (names ++ text ∷ [])
more_names old mid new n item names text more adds = λ name m.
    adds name m ∙ ap (λ o. if bytes_eq name text && nat_eq n m then Some item else o) (more name m)
    ∙ pick (is_among name names) (nat_eq n m) (bytes_eq name text) (item_in old name m) item
    ∙ ap (λ b. if nat_eq n m && b then Some item else item_in old name m) (sym (any_append (bytes_eq name) names (text ∷ [])))

-- the next name is new there
pub still_new :
    (old mid : Declared) (n item : ℕ) (names : List (List ℕ)) (text : List ℕ)
    → HasMore old mid n item names → is_among text names ≡ false → item_in old text n ≡ None
    → item_in mid text n ≡ None
still_new old mid n item names text more none new = more text n ∙ rw (none, new) (both (nat_eq n n))
  where
    both : (b : Bool) → (if b && false then Some item else None) ≡ None
    both true = refl
    both false = refl

-- a name does not stand among those before it
pub once_front :
    (xs : List (List ℕ)) (i : ℕ) (t : List ℕ) → AllPairs (λ a b. a ≢ b) xs → i < length xs
    → get_or xs i t ≡ t → is_among t (take i xs) ≡ false
once_front xs i t once lt is =
    false_of (is_among t (take i xs)) (λ s.
    let c = listed t (take i xs) s in
    let long = length-take i xs in
    let below : c.0 < i = omega (arith, c.1) in
    once c.0 i t below lt (sym (get_or-take i xs c.0 t below) ∙ c.2 ∙ sym is))

pick_one :
    (c b : Bool) (o : Option ℕ) (i : ℕ)
    → (if c && b then Some i else o) ≡ (if b && (c || false) then Some i else o)
pick_one true true o i = refl
pick_one true false o i = refl
pick_one false true o i = refl
pick_one false false o i = refl

-- one name alone
pub declares_one :
    (old new : Declared) (n item : ℕ) (text : List ℕ) → AddsOne old new text n item
    → HasMore old new n item (text ∷ [])
declares_one old new n item text adds = λ name m. adds name m ∙ pick_one (bytes_eq name text) (nat_eq n m) (item_in old name m) item
