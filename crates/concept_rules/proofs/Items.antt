-- The item that declares a name, and its place.
use Rattle.std.proofs.Common.{◌≡◌, ℕ, zero, suc, Bool, true, false, List, [], ◌∷◌, ◌++◌, Option, Some, None, refl, take}
use Rattle.std.specs.Prelude.{slice_get, option_map}
use Rattle.std.specs.Option.{option_or}
use Rattle.utopist_syntax.specs.FileTree.{ItemTree}
use Rattle.concept_rules.specs.Declarations.{is_among, declared, declaration}
use Rattle.concept_rules.specs.steps.Extent.{item_place}

-- an item at a place declares the name, and none before it
pub record Declares (items : List ItemTree) (name : List ℕ) (j : ℕ) : Type 0 where
  pub item : ItemTree
  pub there : slice_get items j ≡ Some item
  pub first : declaration items name ≡ Some item

pub map_suc :
    (o : Option ℕ) (j : ℕ) → option_map suc o ≡ Some j → (k : ℕ) × (o ≡ Some k) × (j ≡ suc k)
map_suc None j h = absurd (cc)
map_suc (Some k) j h = (k, refl, cc)

later :
    (i : ItemTree) (items : List ItemTree) (name : List ℕ) (j : ℕ)
    → is_among name (declared i) ≡ false → Declares items name j → Declares (i ∷ items) name (suc j)
later i items name j e d = record { item = d.item; there = d.there; first = rw e d.first }

place_step :
    (i : ItemTree) (items : List ItemTree) (name : List ℕ) (j : ℕ) (b : Bool)
    → is_among name (declared i) ≡ b
    → ((k : ℕ) → item_place items name ≡ Some k → Declares items name k)
    → item_place (i ∷ items) name ≡ Some j → Declares (i ∷ items) name j
place_step i items name j true e rest h =
    let at : Some 0 ≡ Some j = rw e at h in
    let is : j ≡ 0 = cc in
    rw is (record { item = i; there = refl; first = rw e refl })
place_step i items name j false e rest h =
    let at : option_map suc (item_place items name) ≡ Some j = rw e at h in
    let k = map_suc (item_place items name) j at in
    rw k.2 (later i items name k.0 e (rest k.0 k.1))

pub place_is :
    (items : List ItemTree) (name : List ℕ) (j : ℕ) → item_place items name ≡ Some j
    → Declares items name j
place_is [] name j h = absurd (cc)
place_is (i ∷ items) name j h =
    place_step i items name j (is_among name (declared i)) refl (place_is items name) h

none_step :
    (i : ItemTree) (items : List ItemTree) (name : List ℕ) (b : Bool)
    → is_among name (declared i) ≡ b
    → (item_place items name ≡ None → declaration items name ≡ None)
    → item_place (i ∷ items) name ≡ None → declaration (i ∷ items) name ≡ None
none_step i items name true e rest h = let at : Some 0 ≡ None = rw e at h in absurd (cc)
none_step i items name false e rest h =
    let at : option_map suc (item_place items name) ≡ None = rw e at h in
    rw e (rest (none_of (item_place items name) at))
  where
    none_of : (o : Option ℕ) → option_map suc o ≡ None → o ≡ None
    none_of None g = refl
    none_of (Some k) g = absurd (cc)

pub place_none :
    (items : List ItemTree) (name : List ℕ) → item_place items name ≡ None
    → declaration items name ≡ None
place_none [] name h = refl
place_none (i ∷ items) name h =
    none_step i items name (is_among name (declared i)) refl (place_none items name) h

append_step :
    (i : ItemTree) (xs ys : List ItemTree) (name : List ℕ) (b : Bool)
    → is_among name (declared i) ≡ b
    → declaration (xs ++ ys) name ≡ option_or (declaration xs name) (declaration ys name)
    → declaration (i ∷ (xs ++ ys)) name
    ≡ option_or (declaration (i ∷ xs) name) (declaration ys name)
append_step i xs ys name true e rest = rw e refl
append_step i xs ys name false e rest = rw e rest

-- a name is declared by the first items, or else by those behind them
pub declaration-append :
    (xs ys : List ItemTree) (name : List ℕ)
    → declaration (xs ++ ys) name ≡ option_or (declaration xs name) (declaration ys name)
declaration-append [] ys name = refl
declaration-append (i ∷ xs) ys name =
    append_step i xs ys name (is_among name (declared i)) refl (declaration-append xs ys name)

-- what stands at a place of a extent stands there
pub there_whole :
    {X : Type 0} (m : ℕ) (xs : List X) (j : ℕ) (x : X) → slice_get (take m xs) j ≡ Some x
    → slice_get xs j ≡ Some x
there_whole zero xs j x h = absurd (cc)
there_whole (suc m) [] j x h = h
there_whole (suc m) (y ∷ xs) zero x h = h
there_whole (suc m) (y ∷ xs) (suc j) x h = there_whole m xs j x h
