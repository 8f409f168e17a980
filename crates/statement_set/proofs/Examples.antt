-- Peirce's law in a model of two worlds, and in one of them alone.
use Rattle.std.proofs.Common.{◌≡◌, ℕ, ◌<◌, List, [], ◌∷◌, Option, Some, refl, sym, subst, ⊎_elim, arith}
use Rattle.std.specs.Prelude.{Contains}
use Rattle.std.proofs.lemmas.List.Elements.{All-nil, All-cons, All-head}
use Rattle.priz_base.specs.Sets.{IsWithin}
use Rattle.priz_base.proofs.Members.{contains_here, contains_cases, contains_none, within_itself}
use Rattle.statement_set.specs.Problem.{AreVars}
use Rattle.statement_set.specs.Formula.{atom, imp, statement_formula}
use Rattle.statement_set.specs.Forcing.{World, forces}
use Rattle.statement_set.specs.Countermodel.{IsCountermodel}
use Rattle.statement_set.specs.Worked.{peirce}
use Rattle.statement_set.proofs.Lists.{contains_at}
use Rattle.statement_set.proofs.Obeys.{only}

abbrev two : List World
two = (0 ∷ []) ∷ [] ∷ []

zero_alone : Contains {X = ℕ} (0 ∷ []) 1 → ⊥
zero_alone c = ⊎_elim (λ e. cc) (contains_none 1) (contains_cases 0 [] 1 c)

-- where p to q is forced, there is p in the world itself
p_is_forced : (u : World) → Contains two u → forces two u (imp (atom 0) (atom 1)) → Contains u 0
p_is_forced u c f =
    ⊎_elim
    (λ e. subst (λ u. Contains u 0) e (contains_here 0 []))
    (λ d. let e = only [] u d in absurd (zero_alone (f (0 ∷ []) (contains_here (0 ∷ []) ([] ∷ [])) (subst (λ u. IsWithin u (0 ∷ [])) e (All-nil (Contains (0 ∷ [])))) (contains_here 0 []))))
    (contains_cases (0 ∷ []) ([] ∷ []) u c)

pub two_worlds : IsCountermodel peirce ((0 ∷ []) ∷ [] ∷ [])
two_worlds = record {
  vars = All-cons (AreVars 2) (0 ∷ []) ([] ∷ []) (All-cons (λ v. v < 2) 0 [] (omega arith) (All-nil (λ v. v < 2))) (All-cons (AreVars 2) [] [] (All-nil (λ v. v < 2)) (All-nil (AreVars 2)));
  refuted = (
    [],
    refl,
    record {
      givens = All-nil (Contains []);
      lacks = (0, 0, omega arith, refl, contains_none 0);
      statements = All-cons (λ s. forces two [] (statement_formula s)) _ [] (λ u c i f. p_is_forced u c f) (All-nil (λ s. forces two [] (statement_formula s)));
    },
  );
}

same_some : {x y : World} → ◌≡◌ {A = Option World} (Some x) (Some y) → x ≡ y
same_some e = cc

pub one_world_fails : IsCountermodel peirce ([] ∷ []) → ⊥
one_world_fails m =
    let w = m.refuted.0 in
    let empty : [] ≡ w = same_some m.refuted.1 in
    let forced = All-head (λ s. forces ([] ∷ []) w (statement_formula s)) _ [] m.refuted.2.statements in
    let c : Contains w 0 = forced w (contains_at ([] ∷ []) 0 w m.refuted.1) (within_itself w) (λ x d i h. absurd (contains_none 0 (subst (λ x. Contains x 0) (sym (only [] x d)) h))) in
    contains_none 0 (subst (λ w. Contains w 0) (sym empty) c)
