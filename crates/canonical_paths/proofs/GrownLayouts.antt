-- One more variable of a concept keeps the places of the others.
use Rattle.std.proofs.Common.{◌≡◌, ℕ, zero, suc, ◌+◌, ◌<◌, List, [], ◌∷◌, ◌++◌, Bool, true, false, Option, Some, None, length, refl, sym, ap, ◌∙◌, subst, ◌⊎◌, inl, inr, ⊎_elim, length-append, get_or, arith}
use Rattle.std.specs.Prelude.{slice_get, option_map, ◌&&◌, nat_le, nat_lt, Contains}
use Rattle.std.specs.Str.{bytes_eq}
use Rattle.std.proofs.lemmas.Option.{slice_get_within, slice_get-map, slice_get-get_or, same_Some}
use Rattle.std.proofs.lemmas.List.{length-map}
use Rattle.std.proofs.lemmas.List.Elements.{Contains-append_left, Contains-push}
use Rattle.std.proofs.lemmas.Slice.Eq.{bytes_eq-Decides}
use Rattle.name_sets.specs.Paths.{is_prefix}
use Rattle.name_sets.proofs.Spelt.{member_at}
use Rattle.name_sets.proofs.Places.{at_push}
use Rattle.canonical_paths.specs.declared.slot.Slot.{Slot}
use Rattle.canonical_paths.specs.declared.tables.Alias.{Alias}
use Rattle.canonical_paths.specs.PathNames.{PathNames}
use Rattle.canonical_paths.specs.DeclaredPaths.{variable_paths}
use Rattle.canonical_paths.specs.steps.Tables.{component_entries, moved_to}
use Rattle.canonical_paths.specs.Blocks.{IsBlock}
use Rattle.canonical_paths.specs.LaidOut.{LaidOut}
use Rattle.canonical_paths.specs.steps.Layouts.{HasSlot, BeginsWithOne, IsLayout, inner_paths, with_variable}
use Rattle.canonical_paths.proofs.Elements.{there, get_left, get_either}
use Rattle.canonical_paths.proofs.Stretches.{behind_is}
use Rattle.canonical_paths.proofs.BlocksStand.{NoneBegins, variable_block}

abbrev some : {A : Type 0} → A → Option A
some x = Some x

module _ (paths more inside : List PathNames) (at : ℕ) (p : PathNames) (b : IsBlock paths at p inside) (others : (k : ℕ) (q : PathNames) → slice_get more k ≡ Some q → is_prefix p q ≡ false) where
  last_inside : at + length inside < length paths
  last_inside =
      let l = there ([] ∷ inside) (length inside) (omega arith) in
      slice_get_within paths (at + length inside) _ (b.each (length inside) l.0 l.1)

  only : (n : ℕ) (q : PathNames) → slice_get (paths ++ more) n ≡ Some q → (nat_le at n && nat_lt n (at + suc (length inside))) ≡ is_prefix p q
  only n q h =
      ⊎_elim (λ g. b.only n q g)
      (λ g. behind_is at n (suc (length inside)) (is_prefix p q) (others g.0 q g.1.1) (let l = last_inside in omega (arith, l, g.1.0)))
      (get_either paths more n q h)

  -- a block stays one when no path is added that begins so
  pub block_stays : IsBlock (paths ++ more) at p inside
  block_stays = record { each = λ k e h. get_left paths more (at + k) (p ++ e) (b.each k e h); only = only }

-- a new path begins with the variable's name
mapped_is : (name : List ℕ) (found : Option PathNames) (q : PathNames) → option_map (λ p. name ∷ p) found ≡ some q → (rest : PathNames) × (q ≡ name ∷ rest)
mapped_is name (Some p) q e = (p, sym (same_Some (name ∷ p) q e))
mapped_is name None q e = absurd (cc)

pub new_path : (inner : List PathNames) (name : List ℕ) (k : ℕ) (q : PathNames) → slice_get (variable_paths inner name) k ≡ some q → (rest : PathNames) × (q ≡ name ∷ rest)
new_path inner name zero q e = ([], sym (same_Some (name ∷ []) q e))
new_path inner name (suc k) q e = mapped_is name (slice_get inner k) q (sym (slice_get-map (λ p. name ∷ p) inner k) ∙ e)

apart : (n m : List ℕ) (p : PathNames) → (n ≡ m → ⊥) → is_prefix (n ∷ []) (m ∷ p) ≡ false
apart n m p h = by (bytes_eq n m) refl
  where
    by : (t : Bool) → bytes_eq n m ≡ t → (t && true) ≡ false
    by true e = absurd (h ((bytes_eq-Decides n m).0 e))
    by false e = refl

module _ (concepts : List (List PathNames)) (paths : List PathNames) (l : LaidOut) (name : List ℕ) (concept : Option ℕ) (aliases : List Alias) (inside : List ℕ) (h : IsLayout concepts paths l) (new : ¬ Contains l.names name) (whole : length inside ≡ length (inner_paths concepts concept)) where
  abbrev inner : List PathNames
  inner = inner_paths concepts concept

  abbrev grown : List PathNames
  grown = paths ++ variable_paths inner name

  abbrev with : LaidOut
  with = with_variable l name concept aliases inside

  old_name : (first : List ℕ) → Contains l.names first → first ≡ name → ⊥
  old_name first c e = new (subst (λ (n : List ℕ). Contains l.names n) e c)

  none_old : NoneBegins name paths
  none_old k d w =
      let b = h.begin k (get_or paths k d) (slice_get-get_or paths k d w) in
      ap (is_prefix (name ∷ [])) b.is ∙ apart name b.first b.rest (λ e. old_name b.first b.among (sym e))

  others : (n : List ℕ) → Contains l.names n → (k : ℕ) (q : PathNames) → slice_get (variable_paths inner name) k ≡ some q → is_prefix (n ∷ []) q ≡ false
  others n c k q e =
      let p = new_path inner name k q e in
      ap (is_prefix (n ∷ [])) p.1 ∙ apart n name p.0 (λ f. old_name n c f)

  begin : (n : ℕ) (q : PathNames) → slice_get grown n ≡ some q → BeginsWithOne (l.names ++ name ∷ []) q
  begin n q e =
      ⊎_elim (λ g. let b = h.begin n q g in record { first = b.first; rest = b.rest; is = b.is; among = Contains-append_left l.names (name ∷ []) b.first b.among })
      (λ g. let p = new_path inner name g.0 q g.1.1 in record { first = name; rest = p.0; is = p.1; among = Contains-push l.names name })
      (get_either paths (variable_paths inner name) n q e)

  abbrev slot : Slot
  slot = record { at = length l.table; concept = concept }

  own_block : IsBlock grown (length l.table) (name ∷ []) inner
  own_block =
      subst (λ (at : ℕ). IsBlock grown at (name ∷ []) inner) (sym h.size)
      (variable_block paths inner name none_old)

  each : (n : List ℕ) (s : Slot) → HasSlot with n s → IsBlock grown s.at (n ∷ []) (inner_paths concepts s.concept)
  each n s g = by (at_push l.names name n g.place g.name_is) (at_push l.slots slot s g.place g.slot_is)
    where
      by : (slice_get l.names g.place ≡ some n) ⊎ ((g.place ≡ length l.names) × (name ≡ n)) → (slice_get l.slots g.place ≡ some s) ⊎ ((g.place ≡ length l.slots) × (slot ≡ s)) → IsBlock grown s.at (n ∷ []) (inner_paths concepts s.concept)
      by (inl a) (inl b) =
          block_stays paths (variable_paths inner name) (inner_paths concepts s.concept) s.at (n ∷ [])
          (h.each n s (record { place = g.place; name_is = a; slot_is = b }))
          (others n (member_at l.names g.place n a))
      by (inl a) (inr b) = let w = slice_get_within l.names g.place n a in absurd (omega (arith, w, b.0, h.count))
      by (inr a) (inl b) = let w = slice_get_within l.slots g.place s b in absurd (omega (arith, w, a.0, h.count))
      by (inr a) (inr b) =
          subst (λ (m : List ℕ). IsBlock grown s.at (m ∷ []) (inner_paths concepts s.concept)) a.1
          (subst (λ (r : Slot). IsBlock grown r.at (name ∷ []) (inner_paths concepts r.concept)) b.1 own_block)

  sizes : length with.table ≡ length grown
  sizes =
      let a = length-append l.table (component_entries l.table aliases inside) in
      let b = length-append paths (variable_paths inner name) in
      let c = length-map inside (moved_to l.table aliases (suc (length l.table))) in
      let d = length-map inner (λ (p : PathNames). name ∷ p) in
      omega (arith, a, b, c, d, whole, h.size)

  pub layout_grows : IsLayout concepts grown with
  layout_grows = record {
    count = length-append l.names (name ∷ []) ∙ ap (λ k. k + 1) h.count ∙ sym (length-append l.slots (slot ∷ []));
    size = sizes;
    begin = begin;
    each = each;
  }
