-- Names, each with the items that declare it, by their places; and the paths that items bind.
use Rattle.std.specs.Prelude.{◌≡◌, ◌≢◌, ◌&&◌, ℕ, Bool, List, [], Option, Some, None, option_map, unwrap_or, slice_get, find, nat_eq, if◌then◌else◌, All, AllPairs}
use Rattle.std.specs.Map.{lookup}
use Rattle.std.specs.Str.{bytes_eq}
use Rattle.std.specs.List.{position_or_len}
use Rattle.concept_rules.specs.Declarations.{is_among}
use Rattle.concept_rules.specs.declared.declarations.Declaration.{Declaration}

-- names, and for each the items that declare it: the numbers of their concepts, and their places there;
-- and the left paths of the bindings of items that have some
pub record Declared : Type 0 where
  pub names : List (List ℕ)
  pub items : List (List Declaration)
  pub bound : List (Declaration × List (List (List ℕ)))

-- both are of one item
abbrev pub is_same_item : Declaration → Declaration → Bool
is_same_item d e = nat_eq d.concept e.concept && nat_eq d.item e.item

-- the items that declare a name
abbrev pub items_declaring : Declared → List ℕ → List Declaration
items_declaring d name = unwrap_or (slice_get d.items (position_or_len (bytes_eq name) d.names)) []

-- the place of the item that declares it in the concept of this number, if one does
abbrev pub item_in : Declared → List ℕ → ℕ → Option ℕ
item_in d name n =
    option_map (λ e. e.item) (find (λ e. nat_eq e.concept n) (items_declaring d name))

-- no item of this concept declares one of these names, each of which stands there once
pub record AreNewNames (d : Declared) (n : ℕ) (names : List (List ℕ)) : Type 0 where
  pub new : All (λ name. item_in d name n ≡ None) names
  pub once : AllPairs (λ a b. a ≢ b) names

-- this item of this concept declares these names too
abbrev pub HasMore : Declared → Declared → ℕ → ℕ → List (List ℕ) → Type 0
HasMore old new n item names =
    (name : List ℕ) (m : ℕ)
    → item_in new name m
    ≡ (if nat_eq n m && is_among name names then Some item else item_in old name m)

-- the item of this declaration declares this name too, where none of its concept did
abbrev pub AddsName : Declared → Declared → List ℕ → Declaration → Type 0
AddsName old new name d =
    item_in old name d.concept ≡ None
    → (text : List ℕ) (n : ℕ)
    → item_in new text n
    ≡ (if bytes_eq text name && nat_eq d.concept n then Some d.item else item_in old text n)

-- it declares these names too, where they are new
abbrev pub DeclaresAll : Declared → Declared → ℕ → ℕ → List (List ℕ) → Type 0
DeclaresAll old new n item names = AreNewNames old n names → HasMore old new n item names

-- the left paths of the bindings of the item at a place of a concept
abbrev pub bound_in : Declared → ℕ → ℕ → List (List (List ℕ))
bound_in d n j = unwrap_or (lookup (is_same_item (record { concept = n; item = j })) d.bound) []

-- the item of this declaration, which bound nothing, binds these paths, and no name is declared anew
pub record Binds (old new : Declared) (d : Declaration) (paths : List (List (List ℕ)))
    : Type 0 where
  pub items : (name : List ℕ) (n : ℕ) → item_in new name n ≡ item_in old name n
  pub bound :
      bound_in old d.concept d.item ≡ []
      → (n j : ℕ) → bound_in new n j
      ≡ (if is_same_item d (record { concept = n; item = j }) then paths else bound_in old n j)
