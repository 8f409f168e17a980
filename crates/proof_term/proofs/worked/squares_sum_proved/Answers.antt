use Rattle.std.proofs.Common.{[], ◌∷◌, ⊎_elim}
use Rattle.std.specs.Prelude.{Contains}
use Rattle.std.proofs.lemmas.List.Elements.{All-head}
use Rattle.priz_base.proofs.Members.{contains_cases, contains_none, within_itself}
use Rattle.statement_set.proofs.Lists.{within_first}
use Rattle.proof_term.proofs.worked.squares_sum_proved.Goals as goal

pub returns-clause-nested : goal.returns-clause-nested
returns-clause-nested c = (within_itself (2 ∷ []), ((within_first 0 (2 ∷ []), tt, within_first 1 (0 ∷ 2 ∷ [])), tt), within_first 3 (2 ∷ []))

pub returns-clause-empty : goal.returns-clause-empty
returns-clause-empty c = λ d.
    ⊎_elim
    (λ e. cc)
    (λ k. ⊎_elim (λ e. cc) (contains_none 1) (contains_cases 2 [] 1 k))
    (contains_cases 0 (2 ∷ []) 1 (All-head (Contains (0 ∷ 2 ∷ [])) 1 [] d.1.0))
