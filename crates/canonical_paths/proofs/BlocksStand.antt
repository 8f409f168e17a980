-- Bindings between variables of one type stand for each other path by path; the paths of a variable stand together.
use Rattle.std.proofs.Common.{◌≡◌, ℕ, zero, suc, ◌+◌, ◌-◌, List, [], ◌∷◌, ◌++◌, true, false, Option, Some, None, length, refl, sym, ap, ◌∙◌, ⊎_elim, arith}
use Rattle.std.specs.Prelude.{slice_get, drop, option_map, ◌&&◌, nat_le, nat_lt, All}
use Rattle.std.specs.Str.{bytes_eq}
use Rattle.std.proofs.lemmas.Option.{slice_get-map, slice_get_within, get_or_from_slice_get, same_Some}
use Rattle.std.proofs.lemmas.Slice.Eq.{bytes_eq-Decides}
use Rattle.utopist_syntax.specs.declared.item.Bind.{Bind}
use Rattle.name_sets.specs.Paths.{is_prefix}
use Rattle.canonical_paths.specs.PathNames.{PathNames, names_in}
use Rattle.canonical_paths.specs.DeclaredPaths.{variable_paths}
use Rattle.canonical_paths.specs.Blocks.{IsBlock}
use Rattle.canonical_paths.specs.steps.Tables.{StandsFor, IsAliasIn}
use Rattle.canonical_paths.proofs.Elements.{get_right, get_either, there}
use Rattle.canonical_paths.proofs.Stretches.{within_of, within_is, before_is}

abbrev some : {A : Type 0} → A → Option A
some x = Some x

-- what is behind a path in a longer one
pub drop-front : (p e : PathNames) → drop (length p) (p ++ e) ≡ e
drop-front [] e = refl
drop-front (n ∷ p) e = drop-front p e

pub blocks_stand : (paths inner inside : List PathNames) (b : Bind) (left right : ℕ) → IsBlock inner left (names_in b.left) inside → IsBlock paths right (names_in b.right) inside → StandsFor paths inner b (record { left = left; size = suc (length inside); right = right })
blocks_stand paths inner inside b left right l r = record {
  within = l.only;
  right = λ n q e w.
      let g = within_of left n (suc (length inside)) w in
      let found = there ([] ∷ inside) (n - left) (omega (arith, g.0, g.1)) in
      let at : left + (n - left) ≡ n = omega (arith, g.0) in
      let same : q ≡ names_in b.left ++ found.0 = same_Some q _ (sym e ∙ ap (slice_get inner) (sym at) ∙ l.each (n - left) found.0 found.1) in
      r.each (n - left) found.0 found.1
      ∙ ap (λ x. some (names_in b.right ++ x)) (sym (ap (drop (length (names_in b.left))) same ∙ drop-front (names_in b.left) found.0));
}

-- what is bound so lies among the paths
pub blocks_are_within : (paths inner inside : List PathNames) (left right : ℕ) (l t : PathNames) → IsBlock inner left l inside → IsBlock paths right t inside → IsAliasIn (length inner) (length paths) (record { left = left; size = suc (length inside); right = right })
blocks_are_within paths inner inside left right l t a b =
    let e = there ([] ∷ inside) (length inside) (omega arith) in
    let m = slice_get_within inner (left + length inside) _ (a.each (length inside) e.0 e.1) in
    let n = slice_get_within paths (right + length inside) _ (b.each (length inside) e.0 e.1) in
    record { left = omega (arith, m); right = omega (arith, n) }

-- no path begins with the name
abbrev pub NoneBegins : List ℕ → List PathNames → Type 0
NoneBegins name paths = All (λ p. is_prefix (name ∷ []) p ≡ false) paths

own_name : (name : List ℕ) → bytes_eq name name ≡ true
own_name name = (bytes_eq-Decides name name).1 refl

none_at : (name : List ℕ) (paths : List PathNames) (n : ℕ) (q : PathNames) → NoneBegins name paths → slice_get paths n ≡ some q → is_prefix (name ∷ []) q ≡ false
none_at name paths n q h e =
    ap (is_prefix (name ∷ [])) (sym (get_or_from_slice_get paths n q q e)) ∙ h n q (slice_get_within paths n q e)

module _ (before inner : List PathNames) (name : List ℕ) (not_before : NoneBegins name before) where
  abbrev whole : List PathNames
  whole = before ++ variable_paths inner name

  -- where a path is that stands among these
  data Place (n : ℕ) (q : PathNames) : Type 0 where
    in_before : slice_get before n ≡ some q → Place n q
    is_own : n ≡ length before → q ≡ name ∷ [] → Place n q
    is_inside : (k : ℕ) (p : PathNames) → n ≡ length before + suc k → slice_get inner k ≡ some p → q ≡ name ∷ p → Place n q

  mapped : (found : Option PathNames) (q : PathNames) → option_map (λ p. name ∷ p) found ≡ some q → (p : PathNames) × ((found ≡ some p) × (q ≡ name ∷ p))
  mapped (Some p) q e = (p, (refl, sym (same_Some (name ∷ p) q e)))
  mapped None q e = absurd (cc)

  place_behind : (n k : ℕ) (q : PathNames) → n ≡ length before + k → slice_get (variable_paths inner name) k ≡ some q → Place n q
  place_behind n zero q d e = is_own (omega arith) (sym (same_Some (name ∷ []) q e))
  place_behind n (suc k) q d e =
      let m = mapped (slice_get inner k) q (sym (slice_get-map (λ p. name ∷ p) inner k) ∙ e) in
      is_inside k m.0 d m.1.0 m.1.1

  place : (n : ℕ) (q : PathNames) → slice_get whole n ≡ some q → Place n q
  place n q e = ⊎_elim (λ h. in_before h) (λ h. place_behind n h.0 q h.1.0 h.1.1) (get_either before (variable_paths inner name) n q e)

  -- the paths of the variable
  at_inside : (k : ℕ) (p : PathNames) → slice_get inner k ≡ some p → slice_get whole (length before + suc k) ≡ some (name ∷ p)
  at_inside k p e =
      get_right before (variable_paths inner name) (suc k)
      ∙ slice_get-map (λ r. name ∷ r) inner k ∙ ap (option_map (λ r. name ∷ r)) e

  at_own : slice_get whole (length before + 0) ≡ some (name ∷ [])
  at_own = get_right before (variable_paths inner name) 0

  each : (k : ℕ) (e : PathNames) → slice_get ([] ∷ inner) k ≡ some e → slice_get whole (length before + k) ≡ some ((name ∷ []) ++ e)
  each zero e h = at_own ∙ ap (λ x. some (name ∷ x)) (same_Some [] e h)
  each (suc k) e h = at_inside k e h

  begins_own : (p : PathNames) → is_prefix (name ∷ []) (name ∷ p) ≡ true
  begins_own p = ap (λ t. t && true) (own_name name)

  only : (n : ℕ) (q : PathNames) → slice_get whole n ≡ some q → (nat_le (length before) n && nat_lt n (length before + suc (length inner))) ≡ is_prefix (name ∷ []) q
  only n q e = by (place n q e)
    where
      by : Place n q → (nat_le (length before) n && nat_lt n (length before + suc (length inner))) ≡ is_prefix (name ∷ []) q
      by (in_before h) =
          before_is (length before) n (suc (length inner)) (is_prefix (name ∷ []) q) (none_at name before n q not_before h)
          (slice_get_within before n q h)
      by (is_own d s) =
          within_is (length before) n (suc (length inner)) (is_prefix (name ∷ []) q) (ap (is_prefix (name ∷ [])) s ∙ begins_own [])
          (omega (arith, d)) (omega (arith, d))
      by (is_inside k p d h s) =
          let w = slice_get_within inner k p h in
          within_is (length before) n (suc (length inner)) (is_prefix (name ∷ []) q) (ap (is_prefix (name ∷ [])) s ∙ begins_own p)
          (omega (arith, d)) (omega (arith, d, w))

  -- a variable and the paths inside of it
  pub variable_block : IsBlock whole (length before) (name ∷ []) inner
  variable_block = record { each = each; only = only }
