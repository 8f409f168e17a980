-- What is found under a name.
use Rattle.std.proofs.Common.{◌≡◌, ◌≢◌, ℕ, zero, suc, ◌+◌, ◌<◌, ◌≤◌, Bool, true, false, List, [], ◌∷◌, length, get_or, map, Option, Some, None, refl, sym, ap, ◌∙◌, subst, arith}
use Rattle.std.specs.Prelude.{Contains, slice_get, option_map, option_and_then, is_some, AllPairs, IfSome, IfNone}
use Rattle.std.specs.Str.{bytes_eq}
use Rattle.std.specs.List.{position_or_len}
use Rattle.std.proofs.lemmas.Option.{slice_get_read, get_or_from_slice_get, slice_get-map}
use Rattle.std.proofs.lemmas.Slice.Eq.{bytes_eq-Decides}
use Rattle.priz_base.proofs.More.{some_below}
use Rattle.priz_base.proofs.Members.{contains_here, contains_there}
use Rattle.utopist_syntax.specs.declared.concept.Concept.{Concept}
use Rattle.utopist_syntax.specs.FileTree.{ItemTree, var, eq, rel, item_tree}
use Rattle.concept_rules.specs.declared.declarations.Declaration.{Declaration}
use Rattle.std.specs.Option.{option_map_or}
use Rattle.concept_rules.specs.Declarations.{Variable, declaration, is_declared, variable_of, variable}
use Rattle.concept_rules.specs.steps.Variables.{outline, bound_by}
use Rattle.concept_rules.specs.steps.DeclaredNames.{Declared, items_declaring, item_in, bound_in}
use Rattle.concept_rules.specs.Lineages.{Lines}
use Rattle.concept_rules.specs.steps.Extent.{Extent, item_place, item_standing, outline_standing, checked_items, Reached, IsHere}
use Rattle.concept_rules.proofs.Items.{place_is}
use Rattle.concept_rules.proofs.Finding.{found_in, missing_in}
use Rattle.concept_rules.proofs.Lines.{item_there}

pub false_of : (b : Bool) → (b ≡ true → ⊥) → b ≡ false
false_of true h = absurd (h refl)
false_of false h = refl

pub first_is :
    (x : List ℕ) (xs : List (List ℕ)) (n : List ℕ) → bytes_eq n x ≡ true
    → position_or_len (bytes_eq n) (x ∷ xs) ≡ 0
first_is x xs n e = rw e refl

pub first_is_not :
    (x : List ℕ) (xs : List (List ℕ)) (n : List ℕ) → bytes_eq n x ≡ false
    → position_or_len (bytes_eq n) (x ∷ xs) ≡ 1 + position_or_len (bytes_eq n) xs
first_is_not x xs n e = rw e refl

tail_distinct :
    (x : List ℕ) (xs : List (List ℕ)) → AllPairs (λ a b. a ≢ b) (x ∷ xs)
    → AllPairs (λ a b. a ≢ b) xs
tail_distinct x xs h i j d l m = h (suc i) (suc j) d (omega arith) (omega arith)

-- where names are distinct, a name stands first at the place where it stands
pub place_at :
    (names : List (List ℕ)) (n : List ℕ) (k : ℕ) → AllPairs (λ a b. a ≢ b) names
    → slice_get names k ≡ Some n → position_or_len (bytes_eq n) names ≡ k
place_at [] n k d e = absurd (cc)
place_at (x ∷ xs) n zero d e =
    let same : n ≡ x = cc in first_is x xs n ((bytes_eq-Decides n x).1 same)
place_at (x ∷ xs) n (suc k) d e =
    let lt = some_below xs k n e in
    let other : bytes_eq n x ≡ false =
    false_of (bytes_eq n x) (λ t. d 0 (suc k) x (omega arith) (omega arith) (sym ((bytes_eq-Decides n x).0 t) ∙ sym (get_or_from_slice_get xs k n x e))) in
    first_is_not x xs n other ∙ omega (arith, place_at xs n k (tail_distinct x xs d) e)

-- a name that is none of these has no place among them
pub no_place :
    (names : List (List ℕ)) (n : List ℕ) → ¬ Contains names n
    → position_or_len (bytes_eq n) names ≡ length names
no_place [] n h = refl
no_place (x ∷ xs) n h =
    let other : bytes_eq n x ≡ false = false_of (bytes_eq n x) (λ t. h (subst (Contains (x ∷ xs)) (sym ((bytes_eq-Decides n x).0 t)) (contains_here x xs))) in
    first_is_not x xs n other ∙ omega (arith, no_place xs n (λ c. h (contains_there x xs n c)))

pub past_end : {X : Type 0} (xs : List X) (k : ℕ) → length xs ≤ k → slice_get xs k ≡ None
past_end [] k h = refl
past_end (x ∷ xs) zero h = absurd (omega arith)
past_end (x ∷ xs) (suc k) h = past_end xs k (omega arith)

-- names, with lists that stand for their items
module _ {V : Type 0} (h : V → List Declaration) (bound : List (Declaration × List (List (List ℕ))))
    (names : List (List ℕ)) (vs : List V) (name : List ℕ) (same : length names ≡ length vs) where
  -- the items that declare a name stand at its place
  pub declaring_at :
      (k : ℕ) (v : V) → AllPairs (λ a b. a ≢ b) names → slice_get names k ≡ Some name
      → v ≡ get_or vs k v
      → items_declaring (record { names = names; items = map h vs; bound = bound }) name ≡ h v
  declaring_at k v once there is =
      let below = some_below names k name there in
      let lt : k < length vs = omega (arith, same) in
      let stands = slice_get_read vs (length vs) k v refl lt is in
      rw (place_at names name k once there, slice_get-map h vs k, stands) refl

  pub none_declaring :
      ¬ Contains names name
      → items_declaring (record { names = names; items = map h vs; bound = bound }) name ≡ []
  none_declaring none =
      rw (no_place names name none, slice_get-map h vs (length names), past_end vs (length names) (omega (arith, same))) refl

-- an item that was found under a name: it was checked, stands in the file, and declares the name
pub record IsFound (f : Extent) (concepts : List Concept) (before : List ItemTree) (name : List ℕ) (n j : ℕ) : Type 0 where
  pub item : ItemTree
  pub checked : slice_get (checked_items f n) j ≡ Some item
  pub standing : option_map item_tree (item_standing concepts n j) ≡ Some item
  pub declares : declaration before name ≡ Some item

module _
    (f : Extent) (concepts : List Concept) (l : Lines) (d : Declared) (at : Reached f concepts l d)
    (among : List ℕ) (before : List ItemTree) (here : IsHere f among before) (name : List ℕ) where
  -- what is found of an item is what it declares
  pub item_found :
      (n j : ℕ) → Contains among n → item_in d name n ≡ Some j → IsFound f concepts before name n j
  item_found n j c e =
      let place : item_place (checked_items f n) name ≡ Some j = sym (at.index name n) ∙ e in
      let first = place_is (checked_items f n) name j place in
      let stands = item_there f concepts n j first.item at.all first.there in
      let whole = found_in (checked_items f) name among n j here.apart c place in record {
        item = first.item;
        checked = first.there;
        standing =
            ap (λ (o : Option Concept). option_map item_tree (option_and_then (λ c. slice_get c.items j) o)) stands.there
            ∙ stands.item;
        declares =
            ap (λ (items : List ItemTree). declaration items name) here.items ∙ whole ∙ first.there;
      }

  pub item_missing :
      ((n : ℕ) → Contains among n → item_in d name n ≡ None) → declaration before name ≡ None
  item_missing h = rw here.items (missing_in (checked_items f) name among (λ n c. sym (at.index name n) ∙ h n c))

  -- so whether something is found
  pub found_decides :
      (r : Option Declaration)
      → IfSome r (λ e. Contains among e.concept × (item_in d name e.concept ≡ Some e.item))
      → IfNone r ((n : ℕ) → Contains among n → item_in d name n ≡ None)
      → is_some r ≡ is_declared before name
  found_decides (Some e) some none =
      sym (ap is_some (item_found e.concept e.item some.0 some.1).declares)
  found_decides None some none = sym (ap is_some (item_missing none))

  outline_is :
      (i : ItemTree) (paths : List (List (List ℕ))) → paths ≡ bound_by i
      → option_map (λ (v : Variable). record { kind = v.kind; bound = paths }) (variable_of i)
      ≡ option_map outline (variable_of i)
  outline_is (var names kind binds) paths e = rw e refl
  outline_is (eq left right) paths e = refl
  outline_is (rel n parts output body) paths e = refl

  -- so is what is known of its variables
  pub variable_found :
      (e : Declaration) → Contains among e.concept → item_in d name e.concept ≡ Some e.item
      → outline_standing concepts d e ≡ option_map outline (variable before name)
  variable_found e c there =
      let found = item_found e.concept e.item c there in
      let paths : bound_in d e.concept e.item ≡ bound_by found.item = at.bound e.concept e.item ∙ ap (λ (o : Option ItemTree). option_map_or bound_by o []) found.checked in
      ap (λ (o : Option ItemTree). option_map (λ (v : Variable). record { kind = v.kind; bound = bound_in d e.concept e.item }) (option_and_then variable_of o)) found.standing
      ∙ outline_is found.item (bound_in d e.concept e.item) paths
      ∙ ap (λ (o : Option ItemTree). option_map outline (option_and_then variable_of o)) (sym found.declares)
