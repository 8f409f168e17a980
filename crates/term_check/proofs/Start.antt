-- The scope at the start of the goal's block, and that of a nested block.
use Rattle.std.proofs.Common.{◌≡◌, ℕ, ◌+◌, ◌<◌, ◌≤◌, List, [], ◌∷◌, ◌++◌, length, get_or, take, sym, ◌∙◌, subst, ⊎_elim, inl, inr, arith}
use Rattle.std.specs.Prelude.{Contains, map}
use Rattle.std.proofs.lemmas.List.{take_all, append-nil, get_or-map, length-map}
use Rattle.std.proofs.lemmas.List.Elements.{All-get_or, Contains-append_left, Contains-push, Contains-push_cases}
use Rattle.priz_base.specs.Sets.{IsWithin, Adds}
use Rattle.priz_base.proofs.More.{map_more, take_at}
use Rattle.statement_set.specs.declared.given.Given.{Given}
use Rattle.statement_set.specs.Problem.{Task, var_count, given_vars, AreVars}
use Rattle.term_check.specs.steps.Adding.{AddsAll}
use Rattle.term_check.proofs.Scopes.{within_added_all}

adds_push : (vs : List ℕ) (v : ℕ) (old mid new : List ℕ) → AddsAll old mid vs → Adds mid new v → AddsAll old new (vs ++ v ∷ [])
adds_push vs v old mid new all add n = (
  λ c. ⊎_elim
      (λ s. inl (subst (Contains (vs ++ v ∷ [])) (sym s) (Contains-push vs v)))
      (λ m. ⊎_elim (λ h. inl (Contains-append_left vs (v ∷ []) n h)) (λ o. inr o) ((all n).0 m))
      ((add n).0 c),
  λ h. (add n).1 (⊎_elim
      (λ m. ⊎_elim (λ o. inr ((all n).1 (inl o))) (λ s. inl (sym s)) (Contains-push_cases vs v n m))
      (λ o. inr ((all n).1 (inr o)))
      h),
)

pub adds_more : (vs : List ℕ) (i v : ℕ) (old mid new : List ℕ) → i < length vs → v ≡ get_or vs i v → AddsAll old mid (take i vs) → Adds mid new v → AddsAll old new (take (i + 1) vs)
adds_more vs i v old mid new lt is all add = subst (AddsAll old new) (sym (take_at vs i v lt is)) (adds_push (take i vs) v old mid new all add)

pub adds_end : (vs : List ℕ) (i : ℕ) (old new : List ℕ) → length vs ≤ i → AddsAll old new (take i vs) → AddsAll old new vs
adds_end vs i old new le all = subst (AddsAll old new) (take_all i vs le) all

pub given_added : (gs : List Given) (i : ℕ) (g : Given) (mid new : List ℕ) → i < length gs → g ≡ get_or gs i g → AddsAll [] mid (map (λ g. g.var) (take i gs)) → Adds mid new g.var → AddsAll [] new (map (λ g. g.var) (take (i + 1) gs))
given_added gs i g mid new lt is all add =
    subst (AddsAll [] new) (sym (map_more (λ (g : Given). g.var) gs i g lt is)) (adds_push (map (λ g. g.var) (take i gs)) g.var [] mid new all add)

pub given_below : (p : Task) (gs : List Given) (i : ℕ) (g : Given) → gs ≡ p.givens → i < length gs → g ≡ get_or gs i g → AreVars (var_count p) (given_vars p) → var_count p ≤ 1024 → g.var < 1024
given_below p gs i g e lt is all le =
    let h : AreVars (var_count p) (map (λ g. g.var) gs) = subst (λ x. AreVars (var_count p) (map (λ g. g.var) x)) (sym e) all in
    let m : get_or (map (λ (g : Given). g.var) gs) i g.var < var_count p = All-get_or (λ v. v < var_count p) (map (λ (g : Given). g.var) gs) i g.var (omega (arith, length-map gs (λ (g : Given). g.var))) h in
    let a : (get_or gs i g).var < var_count p = subst (λ v. v < var_count p) (get_or-map (λ (g : Given). g.var) gs i g g.var lt) m in
    let b : g.var < var_count p = subst (λ (x : Given). x.var < var_count p) (sym is) a in
    omega arith

pub all_given : (p : Task) (S : List ℕ) (gs : List Given) (i : ℕ) → gs ≡ p.givens → length gs ≤ i → AddsAll [] S (map (λ g. g.var) (take i gs)) → AddsAll [] S (given_vars p)
all_given p S gs i e le all = subst (λ x. AddsAll [] S (map (λ g. g.var) x)) (take_all i gs le ∙ e) all

-- the set has the members of the list
pub same_as_list : (S U : List ℕ) → AddsAll [] S U → IsWithin S U × IsWithin U S
same_as_list S U a = subst (λ x. IsWithin S x × IsWithin x S) (append-nil U) (within_added_all [] S U a)
