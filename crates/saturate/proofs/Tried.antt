-- Statements that were tried in turn.
use Rattle.std.proofs.Common.{arith, ◌≡◌, ℕ, ◌+◌, ◌<◌, ◌≤◌, List, length, Some, subst, ⊎_elim}
use Rattle.std.specs.Prelude.{slice_get, IsSomeAnd}
use Rattle.std.proofs.lemmas.Bool.{cases_eq}
use Rattle.std.proofs.lemmas.Option.{slice_get_within}
use Rattle.statement_set.specs.declared.statement.Statement.{Statement}
use Rattle.statement_set.specs.Problem.{Task}
use Rattle.statement_set.proofs.Lists.{some_and}
use Rattle.saturate.specs.Ready.{IsReady, ReadyAt}

-- one more that isn't ready
pub none_to_here : (p : Task) (known : List ℕ) (n : ℕ) (s : Statement) → slice_get p.statements n ≡ Some s → ¬ IsReady known s → ((m : ℕ) → m < n → ¬ ReadyAt p known m) → (m : ℕ) → m < n + 1 → ¬ ReadyAt p known m
none_to_here p known n s is not_it before m lt r =
    ⊎_elim
    (λ same. not_it (subst (λ o. IsSomeAnd o (IsReady known)) is (subst (ReadyAt p known) same r)))
    (λ other. before m (omega (arith, other)) r)
    (cases_eq m n)

-- all were tried
pub none_at_all : (p : Task) (known : List ℕ) (n : ℕ) → length p.statements ≤ n → ((m : ℕ) → m < n → ¬ ReadyAt p known m) → (m : ℕ) → ¬ ReadyAt p known m
none_at_all p known n all before m r =
    let f = some_and (slice_get p.statements m) (IsReady known) r in
    before m (omega (arith, slice_get_within p.statements m f.0 f.1, all)) r
