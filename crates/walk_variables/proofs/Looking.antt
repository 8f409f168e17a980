-- A known numeric path of a component is a variable of the walk.
use Rattle.std.proofs.Common.{◌≡◌, ◌<◌, ◌≤◌, ◌+◌, ℕ, zero, Bool, true, false, List, [], ◌∷◌, ◌++◌, Option, Some, None, length, get_or, Decides, refl, sym, ap, ◌∙◌, subst, arith}
use Rattle.std.specs.Prelude.{reverse, Contains, IsSome, slice_get, slice_index_or, option_and_then}
use Rattle.std.specs.Str.{bytes_eq}
use Rattle.std.specs.Cmp.Lexicographic.{pointwise}
use Rattle.std.proofs.lemmas.Bool.{false_from_ne_true}
use Rattle.std.proofs.lemmas.List.{map-append}
use Rattle.std.proofs.lemmas.List.Sums.{position_or_len_is}
use Rattle.std.proofs.lemmas.Option.{slice_get_within, slice_get-get_or, get_or_from_slice_get, same_Some}
use Rattle.std.proofs.lemmas.Slice.Eq.{slice_eq-Decides, bytes_eq-Decides}
use Rattle.utopist_syntax.specs.Named.{Named}
use Rattle.utopist_syntax.specs.declared.path.Path.{Path}
use Rattle.utopist_syntax.specs.declared.item.VarKind.{VarKind}
use Rattle.utopist_syntax.specs.declared.item.VarKind.TheVariants.{Numeric, Of}
use Rattle.name_sets.specs.Paths.{texts}
use Rattle.concept_rules.specs.Declarations.{Variable, variable}
use Rattle.concept_rules.specs.Kinds.{kind_along, kind_of_path}
use Rattle.concept_rules.specs.Lineage.{effective_items}
use Rattle.canonical_paths.specs.declared.slot.Slot.{Slot}
use Rattle.canonical_paths.specs.PathNames.{PathNames, names_in}
use Rattle.canonical_paths.specs.Canonical.{canonical_path}
use Rattle.canonical_paths.specs.Components.{effective_in, canonical_in}
use Rattle.canonical_paths.specs.Tables.{IsTable}
use Rattle.canonical_paths.specs.Layouts.{ForEachReached, IsFoundAt}
use Rattle.concept_walk.specs.Visits.{visited_variables}
use Rattle.concept_walk.specs.declared.walk.Walk.{Walk}
use Rattle.concept_walk.specs.Walks.{IsWalk, IsPlace, concepts_of, concept_in, items_in, paths_in, whole_walk}
use Rattle.concept_walk.proofs.Places.{along-append, concept_there, number_is_small, number_in_table, entry}
use Rattle.concept_walk.proofs.WalkedNames.{variables_differ}
use Rattle.concept_walk.proofs.WalkedPaths.{known_walked}
use Rattle.walk_variables.specs.Numbering.{AreVariableNumbers, number_in}
use Rattle.walk_variables.proofs.Placing.{same_place}

same_names : (p q : PathNames) → Decides (pointwise bytes_eq p q) (p ≡ q)
same_names p q = slice_eq-Decides bytes_eq-Decides p q (pointwise bytes_eq p q) refl

-- the path is found in the concept of this number
abbrev pub FindsPath : Walk → ℕ → List Named → Option Slot → Type 0
FindsPath w n path r =
    ForEachReached w.layouts.now n
    (λ all reached c. (kind : VarKind)
    → kind_of_path (reverse all) (effective_in all c) path ≡ Some kind
    → IsFoundAt all reached c (texts path) kind r)

module _ (w : Walk) (h : IsWalk w) (n start : ℕ) (at : PathNames) (place : IsPlace w n start at) (path : List Named)
    (known : kind_of_path (reverse (concepts_of w)) (items_in w n) path ≡ Some Numeric)
  where
    -- it is known in the asked concept, behind the path of the component
    from_type : kind_along (reverse (concepts_of w)) (Of place.leads.type) path ≡ Some Numeric
    from_type = by path known
      where
        by : (p : List Named) → kind_of_path (reverse (concepts_of w)) (items_in w n) p ≡ Some Numeric → kind_along (reverse (concepts_of w)) (Of place.leads.type) p ≡ Some Numeric
        by [] e = absurd (cc)
        by (x ∷ rest) e =
            ap (λ t. option_and_then (λ (v : Variable). kind_along (reverse (concepts_of w)) v.kind rest) (variable (effective_items (reverse (concepts_of w)) t) x.text)) place.leads.named ∙ e

    from_asked : kind_along (reverse (concepts_of w)) (Of (concept_in w w.asked).name) (place.leads.names ++ path) ≡ Some Numeric
    from_asked =
        along-append (reverse (concepts_of w)) (Of (concept_in w w.asked).name) place.leads.names path
        ∙ ap (option_and_then (λ k. kind_along (reverse (concepts_of w)) k path)) place.leads.leads
        ∙ from_type

    all_names : texts (place.leads.names ++ path) ≡ at ++ texts path
    all_names = map-append (λ (x : Named). x.text) place.leads.names path ∙ ap (λ (p : PathNames). p ++ texts path) place.leads.are

    abbrev canonical : PathNames
    canonical = canonical_in (concepts_of w) (concept_in w w.asked) (at ++ texts path)

    -- so its canonical path is met
    is_met : Contains (visited_variables (whole_walk w)) canonical
    is_met =
        subst (λ (p : PathNames). Contains (visited_variables (whole_walk w)) (canonical_path (reverse (concepts_of w)) (concept_in w w.asked).name.text p)) all_names
        (known_walked (concepts_of w) h.kept (concept_in w w.asked).name (place.leads.names ++ path) from_asked)

    abbrev number : ℕ
    number = is_met.0

    met_at : slice_get (visited_variables (whole_walk w)) number ≡ Some canonical
    met_at = slice_get-get_or (visited_variables (whole_walk w)) number canonical is_met.1 ∙ ap (λ (p : PathNames). Some p) is_met.2

    -- where it stands first
    is_number : number_in w (at ++ texts path) ≡ number
    is_number =
        position_or_len_is (pointwise bytes_eq canonical) (visited_variables (whole_walk w)) number canonical (let b = is_met.1 in omega (arith, b))
        (λ k lt. false_from_ne_true (pointwise bytes_eq canonical (get_or (visited_variables (whole_walk w)) k canonical)) (λ t. earlier k lt ((same_names canonical (get_or (visited_variables (whole_walk w)) k canonical)).0 t)))
        (λ lt. (same_names canonical (get_or (visited_variables (whole_walk w)) number canonical)).1 (sym is_met.2))
      where
        earlier : (k : ℕ) → k < number → canonical ≡ get_or (visited_variables (whole_walk w)) k canonical → ⊥
        earlier k lt e =
            let within : k < length (visited_variables (whole_walk w)) = let b = is_met.1 in omega (arith, lt, b) in
            let same = same_place (visited_variables (whole_walk w)) (variables_differ (concepts_of w) h.kept (concept_in w w.asked).name.text) k number canonical
            (slice_get-get_or (visited_variables (whole_walk w)) k canonical within ∙ ap (λ (p : PathNames). Some p) (sym e)) met_at in
            omega (arith, lt, same)

    module _ (r : Option Slot) (finds : FindsPath w n path r) where
      found : IsFoundAt (concepts_of w) place.laid.reached (concept_in w n) (texts path) Numeric r
      found = finds (concepts_of w) w.asked place.laid (concept_in w n) place.reached (concept_there w n place.known) Numeric known

      pub path_found : IsSome r
      path_found = subst IsSome (sym found.is) refl

      module _ (slot : Slot) (is_slot : r ≡ Some slot) where
        same_slot : found.slot ≡ slot
        same_slot = same_Some found.slot slot (sym found.is ∙ is_slot)

        -- the number of its path
        stands : slice_get (paths_in w w.asked) (start + slot.at) ≡ Some (at ++ texts path)
        stands =
            let e = ap (λ (x : Slot). x.at) same_slot in
            let k : slot.at ≡ found.slot.at + 0 = omega (arith, e) in
            place.stand slot.at (texts path)
            (ap (slice_get (paths_in w n)) k ∙ found.block.each 0 [] refl ∙ ap (λ (p : PathNames). Some p) (append_nothing (texts path)))
          where
            append_nothing : (p : PathNames) → p ++ [] ≡ p
            append_nothing [] = refl
            append_nothing (x ∷ p) = ap (λ (q : PathNames). x ∷ q) (append_nothing p)

        pub path_is_small : start + slot.at < 8192
        path_is_small = number_is_small w h (start + slot.at) (at ++ texts path) stands

        module _ (table : List ℕ) (is : IsTable (canonical_in (concepts_of w) (concept_in w w.asked)) (paths_in w w.asked) table) where
          pub path_in_table : start + slot.at < length table
          path_in_table = number_in_table w h table is (start + slot.at) (at ++ texts path) stands

          module _ (numbers : List ℕ) (are : AreVariableNumbers w numbers) where
            its_number : slice_get numbers (slice_index_or table (start + slot.at) 0) ≡ Some number
            its_number = are.each (slice_index_or table (start + slot.at) 0) number canonical (entry w h table is (start + slot.at) (at ++ texts path) stands) met_at

            pub canonical_in_numbers : slice_index_or table (start + slot.at) 0 < length numbers
            canonical_in_numbers = slice_get_within numbers (slice_index_or table (start + slot.at) 0) number its_number

            pub variable_is : slice_index_or numbers (slice_index_or table (start + slot.at) 0) 0 ≡ number_in w (at ++ texts path)
            variable_is = get_or_from_slice_get numbers (slice_index_or table (start + slot.at) 0) number 0 its_number ∙ sym is_number

            pub variable_below : slice_index_or numbers (slice_index_or table (start + slot.at) 0) 0 < length (visited_variables (whole_walk w))
            variable_below =
                let e = get_or_from_slice_get numbers (slice_index_or table (start + slot.at) 0) number 0 its_number in
                let b = is_met.1 in
                omega (arith, e, b)
