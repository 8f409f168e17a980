-- Forcing at a place is forcing at the world that stands there.
use Rattle.std.proofs.Common.{◌≡◌, ◌↔◌, ℕ, List, Option, Some, sym, subst, ap, ◌∙◌, ⊎_elim, inl, inr}
use Rattle.std.specs.Prelude.{Contains, IsSomeAnd, slice_get}
use Rattle.std.proofs.lemmas.Option.{slice_get-get_or}
use Rattle.priz_base.specs.Sets.{IsWithin}
use Rattle.statement_set.specs.Formula.{Formula, atom, falsum, imp, and, or}
use Rattle.statement_set.specs.Forcing.{World, forces}
use Rattle.statement_set.proofs.Lists.{contains_at, some_and, some_and_at}
use Rattle.kripke_check.specs.ForcingByPlace.{IsAbove, forces_at}

same_some : {x y : World} → ◌≡◌ {A = Option World} (Some x) (Some y) → x ≡ y
same_some e = cc

at_place : (o : Option World) (P : World → Type 0) (w : World) → o ≡ Some w → IsSomeAnd o P → P w
at_place o P w e h = let x = some_and o P h in subst P (same_some (sym x.1 ∙ e)) x.2

above_at : (L : List World) (i j : ℕ) (w u : World) → slice_get L i ≡ Some w → slice_get L j ≡ Some u → IsWithin w u → IsAbove L i j
above_at L i j w u e f h = some_and_at (slice_get L i) (λ w. IsSomeAnd (slice_get L j) (λ u. IsWithin w u)) w e (some_and_at (slice_get L j) (λ u. IsWithin w u) u f h)

pub by_place : (L : List World) (i : ℕ) (w : World) (A : Formula) → slice_get L i ≡ Some w → forces_at L i A ↔ forces L w A
by_place L i w (atom v) e = (at_place (slice_get L i) (λ w. Contains w v) w e, some_and_at (slice_get L i) (λ w. Contains w v) w e)
by_place L i w falsum e = (λ h. h, λ h. h)
by_place L i w (and A B) e =
    let a = by_place L i w A e in
    let b = by_place L i w B e in
    (λ h. (a.0 h.0, b.0 h.1), λ h. (a.1 h.0, b.1 h.1))
by_place L i w (or A B) e =
    let a = by_place L i w A e in
    let b = by_place L i w B e in
    (⊎_elim (λ h. inl (a.0 h)) (λ h. inr (b.0 h)), ⊎_elim (λ h. inl (a.1 h)) (λ h. inr (b.1 h)))
by_place L i w (imp A B) e = (
  λ h u c k f.
      let j = c.0 in
      let at : slice_get L j ≡ Some u = slice_get-get_or L j u c.1 ∙ ap Some c.2 in
      (by_place L j u B at).0 (h j (above_at L i j w u e at k) ((by_place L j u A at).1 f)),
  λ h j a f.
      let x = some_and (slice_get L j) (λ u. IsWithin w u) (at_place (slice_get L i) (λ w. IsSomeAnd (slice_get L j) (λ u. IsWithin w u)) w e a) in
      (by_place L j x.0 B x.1).1 (h x.0 (contains_at L j x.0 x.1) x.2 ((by_place L j x.0 A x.1).0 f)),
)
