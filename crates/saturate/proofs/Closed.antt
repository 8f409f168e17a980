-- Where no statement is ready, what is known is closed.
use Rattle.std.proofs.Common.{◌≡◌, ℕ, List, [], get_or, ⊎_elim}
use Rattle.std.specs.Prelude.{Contains, All, slice_get}
use Rattle.std.proofs.lemmas.Option.{slice_get-get_or}
use Rattle.priz_base.specs.Sets.{IsWithin}
use Rattle.statement_set.specs.Problem.{Task}
use Rattle.statement_set.proofs.Lists.{has_or_lacks, some_and_at}
use Rattle.saturate.specs.Ready.{IsReady, ReadyAt}

-- the premise of a one-world countermodel, for problems without subtasks
pub closed : (p : Task) (known : List ℕ) → All (λ s. s.subs ≡ []) p.statements → ((n : ℕ) → ¬ ReadyAt p known n) → All (λ s. IsWithin s.inputs known → Contains known s.output) p.statements
closed p known plain none n d lt i =
    let s = get_or p.statements n d in
    ⊎_elim
    (λ c. c)
    (λ lacks. absurd (none n (some_and_at (slice_get p.statements n) (IsReady known) s (slice_get-get_or p.statements n d lt) (record { plain = plain n d lt; inputs = i; output = lacks }))))
    (has_or_lacks known s.output)
