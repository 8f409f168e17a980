-- What items bind, with one more item of the concept at hand.
use Rattle.std.proofs.Common.{◌≡◌, ℕ, ◌+◌, Bool, true, false, ◌&&◌, nat_eq, List, [], ◌∷◌, ◌++◌, length, take, Option, refl, sym, ap, ◌∙◌, subst, ⊎_elim, arith}
use Rattle.std.specs.Prelude.{slice_get, unwrap_or, if◌then◌else◌}
use Rattle.std.specs.Map.{lookup}
use Rattle.std.specs.Option.{option_map_or}
use Rattle.utopist_syntax.specs.FileTree.{ItemTree, ConceptTree}
use Rattle.concept_rules.specs.declared.declarations.Declaration.{Declaration}
use Rattle.concept_rules.specs.steps.DeclaredNames.{Declared, is_same_item, bound_in, HasMore, Binds}
use Rattle.concept_rules.specs.steps.Variables.{bound_by}
use Rattle.concept_rules.specs.steps.Extent.{extent, own_items, checked_items, AreBound}
use Rattle.concept_rules.proofs.Lines.{seen_last, equal_itself}
use Rattle.concept_rules.proofs.Lookup.{past_end}
use Rattle.concept_rules.proofs.Growing.{nat_eq_true, not_equal, seen_other}
use Rattle.concept_rules.proofs.WholeConcept.{push_left, push_at, push_past, less_or_same}

-- the left paths of the bindings of the item at a place
abbrev paths_at : List ItemTree → ℕ → List (List (List ℕ))
paths_at items j = option_map_or bound_by (slice_get items j) []

module _ (all : List ConceptTree) (n : ℕ) (before : List ConceptTree) (m : ℕ) (item : ItemTree)
    (is : take (m + 1) (own_items all n) ≡ take m (own_items all n) ++ item ∷ []) (long : length (take m (own_items all n)) ≡ m)
    (old : Declared) (p : AreBound (extent all n before m) old) where
  abbrev own : List ItemTree
  own = take m (own_items all n)

  was : (j : ℕ) → bound_in old n j ≡ paths_at own j
  was j = p n j ∙ ap (λ (xs : List ItemTree). paths_at xs j) (seen_last (extent all n before m))

  was_free : bound_in old n m ≡ []
  was_free =
      was m
      ∙ ap (λ (o : Option ItemTree). option_map_or bound_by o []) (past_end own m (omega (arith, long)))

  now :
      (j : ℕ)
      → paths_at (checked_items (extent all n before (m + 1)) n) j ≡ paths_at (own ++ item ∷ []) j
  now j = ap (λ (xs : List ItemTree). paths_at xs j) (seen_last (extent all n before (m + 1)) ∙ is)

  at_item : (j : ℕ) → j ≡ m → paths_at (own ++ item ∷ []) j ≡ bound_by item
  at_item j e =
      ap (λ k. paths_at (own ++ item ∷ []) k) (e ∙ sym long)
      ∙ ap (λ (o : Option ItemTree). option_map_or bound_by o []) (push_at own item)

  off_item : (j : ℕ) → (j ≡ m → ⊥) → paths_at (own ++ item ∷ []) j ≡ paths_at own j
  off_item j other =
      ap (λ (o : Option ItemTree). option_map_or bound_by o [])
      (⊎_elim
      (λ lt. push_left own item j lt)
      (λ h. ⊎_elim (λ e. absurd (other (e ∙ long))) (λ gt. push_past own item j gt ∙ sym (past_end own j (omega (arith, gt)))) h)
      (less_or_same j (length own)))

  here :
      (j : ℕ) (b : Bool) → nat_eq m j ≡ b
      → (if b then bound_by item else bound_in old n j) ≡ paths_at (own ++ item ∷ []) j
  here j true e = sym (at_item j (sym (nat_eq_true m j e)))
  here j false e = was j ∙ sym (off_item j (λ s. let t : nat_eq m j ≡ true = subst (λ k. nat_eq m k ≡ true) (sym s) (equal_itself m) in absurd (cc)))

  bound_case :
      (k j : ℕ) (b : Bool) → nat_eq n k ≡ b
      → (if b && nat_eq m j then bound_by item else bound_in old k j)
      ≡ paths_at (checked_items (extent all n before (m + 1)) k) j
  bound_case k j true e =
      subst (λ x. (if nat_eq m j then bound_by item else bound_in old x j) ≡ paths_at (checked_items (extent all n before (m + 1)) x) j) (nat_eq_true n k e) (here j (nat_eq m j) refl ∙ sym (now j))
  bound_case k j false e =
      let other = not_equal k n (nat_eq k n) refl (λ s. let t : nat_eq n k ≡ true = subst (λ x. nat_eq n x ≡ true) (sym s) (equal_itself n) in absurd (cc)) in
      p k j
      ∙ ap (λ (xs : List ItemTree). paths_at xs j) (sym (seen_other all n before m item is long k other))

  module _ (mid new : Declared) (same : mid.bound ≡ old.bound) (paths : List (List (List ℕ)))
      (are : paths ≡ bound_by item) (binds : Binds mid new (record { concept = n; item = m }) paths)
    where
      as_before : (k j : ℕ) → bound_in mid k j ≡ bound_in old k j
      as_before k j =
          ap (λ (es : List (Declaration × List (List (List ℕ)))). unwrap_or (lookup (is_same_item (record { concept = k; item = j })) es) []) same

      -- the item has its paths too
      pub bound_more : AreBound (extent all n before (m + 1)) new
      bound_more = λ k j.
          binds.bound (as_before n m ∙ was_free) k j
          ∙ ap (λ (ps : List (List (List ℕ))). if nat_eq n k && nat_eq m j then ps else bound_in mid k j) are
          ∙ ap (λ (ps : List (List (List ℕ))). if nat_eq n k && nat_eq m j then bound_by item else ps) (as_before k j)
          ∙ bound_case k j (nat_eq n k) refl

      -- the names stay
      pub names_kept : (names : List (List ℕ)) → HasMore old mid n m names → HasMore old new n m names
      names_kept names more = λ name k. binds.items name k ∙ more name k
