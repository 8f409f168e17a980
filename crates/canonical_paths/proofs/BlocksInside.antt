-- A variable inside of another.
use Rattle.std.proofs.Common.{◌≡◌, ℕ, zero, suc, ◌+◌, ◌-◌, ◌<◌, List, [], ◌∷◌, ◌++◌, Bool, true, false, Option, Some, length, refl, sym, ap, ◌∙◌, subst, ⊎_elim, append_assoc, take, drop, get_or, arith}
use Rattle.std.specs.Prelude.{slice_get, ◌&&◌, nat_le, nat_lt}
use Rattle.std.specs.Str.{bytes_eq}
use Rattle.std.proofs.lemmas.Option.{slice_get_within, same_Some}
use Rattle.std.proofs.lemmas.Slice.Eq.{bytes_eq-Decides}
use Rattle.std.proofs.Math.Seq.{take-length}
use Rattle.utopist_syntax.specs.Named.{Named}
use Rattle.name_sets.specs.Paths.{texts, is_prefix}
use Rattle.canonical_paths.specs.declared.slot.Slot.{Slot}
use Rattle.canonical_paths.specs.PathNames.{PathNames}
use Rattle.canonical_paths.specs.Blocks.{IsBlock}
use Rattle.canonical_paths.specs.LaidOut.{LaidOut}
use Rattle.canonical_paths.specs.steps.Layouts.{HasSlot, inner_paths}
use Rattle.canonical_paths.specs.steps.PathLists.{PathLists, HaveLayouts, IsSlotOf}
use Rattle.canonical_paths.proofs.Elements.{there}
use Rattle.canonical_paths.proofs.Stretches.{within_of, outside_of, before_is, behind_is, shifted}

abbrev some : PathNames → Option PathNames
some x = Some x

one_of : (t a b : Bool) → (t && a) ≡ false → (a ≡ false → b ≡ false) → (t && b) ≡ false
one_of true a b h k = k h
one_of false a b h k = refl

shorter : (p s r : PathNames) → is_prefix p r ≡ false → is_prefix (p ++ s) r ≡ false
shorter [] s r h = absurd (cc)
shorter (n ∷ p) s [] h = refl
shorter (n ∷ p) s (m ∷ r) h = one_of (bytes_eq n m) (is_prefix p r) (is_prefix (p ++ s) r) h (λ g. shorter p s r g)

front : (p s e : PathNames) → is_prefix (p ++ s) (p ++ e) ≡ is_prefix s e
front [] s e = refl
front (n ∷ p) s e = ap (λ t. t && is_prefix (p ++ s) (p ++ e)) ((bytes_eq-Decides n n).1 refl) ∙ front p s e

module _ (paths inner sub : List PathNames) (at m : ℕ) (p : PathNames) (x : List ℕ) (q : PathNames) (b : IsBlock paths at p inner) (c : IsBlock inner m (x ∷ q) sub) where
  last_inside : m + length sub < length inner
  last_inside =
      let l = there ([] ∷ sub) (length sub) (omega arith) in
      slice_get_within inner (m + length sub) _ (c.each (length sub) l.0 l.1)

  each : (k : ℕ) (e : PathNames) → slice_get ([] ∷ sub) k ≡ some e → slice_get paths (at + m + 1 + k) ≡ some ((p ++ x ∷ q) ++ e)
  each k e h =
      let i : at + m + 1 + k ≡ at + suc (m + k) = omega arith in
      ap (slice_get paths) i ∙ b.each (suc (m + k)) ((x ∷ q) ++ e) (c.each k e h) ∙ ap some (sym (append_assoc p (x ∷ q) e))

  -- a path behind p, where it stands inside
  behind : (n k : ℕ) (r e : PathNames) → n ≡ at + k → r ≡ p ++ e → slice_get ([] ∷ inner) k ≡ some e → (nat_le (at + m + 1) n && nat_lt n (at + m + 1 + suc (length sub))) ≡ is_prefix (p ++ x ∷ q) r
  behind n zero r e d s h =
      before_is (at + m + 1) n (suc (length sub)) (is_prefix (p ++ x ∷ q) r)
      (ap (is_prefix (p ++ x ∷ q)) s ∙ front p (x ∷ q) e ∙ ap (is_prefix (x ∷ q)) (sym (same_Some [] e h)))
      (omega (arith, d))
  behind n (suc k) r e d s h =
      shifted at m n k (suc (length sub)) (is_prefix (x ∷ q) e) d (c.only k e h)
      ∙ sym (ap (is_prefix (p ++ x ∷ q)) s ∙ front p (x ∷ q) e)

  only : (n : ℕ) (r : PathNames) → slice_get paths n ≡ some r → (nat_le (at + m + 1) n && nat_lt n (at + m + 1 + suc (length sub))) ≡ is_prefix (p ++ x ∷ q) r
  only n r h = by (is_prefix p r) refl
    where
      by : (t : Bool) → is_prefix p r ≡ t → (nat_le (at + m + 1) n && nat_lt n (at + m + 1 + suc (length sub))) ≡ is_prefix (p ++ x ∷ q) r
      by true t =
          let g = within_of at n (suc (length inner)) (b.only n r h ∙ t) in
          let e = there ([] ∷ inner) (n - at) (omega (arith, g.0, g.1)) in
          let i : n ≡ at + (n - at) = omega (arith, g.0) in
          behind n (n - at) r e.0 i (same_Some r _ (sym h ∙ ap (slice_get paths) i ∙ b.each (n - at) e.0 e.1)) e.1
      by false t =
          let f = shorter p (x ∷ q) r t in
          let l = last_inside in
          ⊎_elim
          (λ o. before_is (at + m + 1) n (suc (length sub)) (is_prefix (p ++ x ∷ q) r) f (omega (arith, o)))
          (λ o. behind_is (at + m + 1) n (suc (length sub)) (is_prefix (p ++ x ∷ q) r) f (omega (arith, o, l)))
          (outside_of at n (suc (length inner)) (b.only n r h ∙ t))

  block_inside : IsBlock paths (at + m + 1) (p ++ x ∷ q) sub
  block_inside = record { each = each; only = only }

-- a path is its first name and the rest
pub split_path : (path rest : List Named) (first d : Named) → 0 < length path → first ≡ get_or path 0 d → rest ≡ take (length path - 1) (drop 1 path) → path ≡ first ∷ rest
split_path [] rest first d h e f = absurd (omega arith)
split_path (n ∷ path) rest first d h e f =
    let one : suc (length path) - 1 ≡ length path = omega arith in
    ap (λ m. m ∷ path) (sym e) ∙ ap (λ ns. first ∷ ns) (sym (f ∙ ap (λ k. take k path) one ∙ take-length path))

-- a path whose first name is that of a variable of these lists
module _ (w : PathLists) (layouts : List LaidOut) (l : LaidOut) (here : HaveLayouts w layouts l) (path rest : List Named) (first d : Named) (some_name : 0 < length path) (first_is : first ≡ get_or path 0 d) (rest_is : rest ≡ take (length path - 1) (drop 1 path)) (s : Slot) (slot : HasSlot l first.text s) where
  -- the paths inside of it, where its type is the concept of this number
  abbrev lists_inside : ℕ → PathLists
  lists_inside c = record { concepts = w.concepts; paths = inner_paths w.concepts (Some c) }

  pub laid_out_inside : (c : ℕ) (inner : LaidOut) → slice_get layouts c ≡ Some inner → HaveLayouts (lists_inside c) layouts inner
  laid_out_inside c inner g = record { concepts = here.concepts; so_far = here.concepts c inner g }

  -- the search goes on inside of it
  pub found_behind : (c : ℕ) (inner : LaidOut) (found r : Slot) → s.concept ≡ Some c → slice_get layouts c ≡ Some inner → (length rest ≡ 0 → ⊥) → ((v : PathLists) → HaveLayouts v layouts inner → IsSlotOf v (texts rest) found) → (r.at ≡ s.at + found.at + 1) × (r.concept ≡ found.concept) → IsSlotOf w (texts path) r
  found_behind c inner found r k g more inside is = by rest more (inside (lists_inside c) (laid_out_inside c inner g)) (split_path path rest first d some_name first_is rest_is)
    where
      by : (ns : List Named) → (length ns ≡ 0 → ⊥) → IsSlotOf (lists_inside c) (texts ns) found → path ≡ first ∷ ns → IsSlotOf w (texts path) r
      by [] none b e = absurd (none refl)
      by (m ∷ ns) none b e =
          let own = subst (λ (t : Option ℕ). IsBlock w.paths s.at (first.text ∷ []) (inner_paths w.concepts t)) k (here.so_far.each first.text s slot) in
          let both = block_inside w.paths (inner_paths w.concepts (Some c)) (inner_paths w.concepts found.concept) s.at found.at (first.text ∷ []) m.text (texts ns) own b in
          subst (λ (names : PathNames). IsBlock w.paths r.at names (inner_paths w.concepts r.concept)) (ap texts (sym e))
          (subst (λ (at : ℕ). IsBlock w.paths at (texts (first ∷ m ∷ ns)) (inner_paths w.concepts r.concept)) (sym is.0)
          (subst (λ (t : Option ℕ). IsBlock w.paths (s.at + found.at + 1) (texts (first ∷ m ∷ ns)) (inner_paths w.concepts t)) (sym is.1) both))

  -- it ends at the variable
  pub found_here : length rest ≡ 0 → IsSlotOf w (texts path) s
  found_here none = by rest none (split_path path rest first d some_name first_is rest_is)
    where
      by : (ns : List Named) → length ns ≡ 0 → path ≡ first ∷ ns → IsSlotOf w (texts path) s
      by [] n e = subst (λ (names : PathNames). IsBlock w.paths s.at names (inner_paths w.concepts s.concept)) (ap texts (sym e)) (here.so_far.each first.text s slot)
      by (m ∷ ns) n e = absurd (omega arith)
