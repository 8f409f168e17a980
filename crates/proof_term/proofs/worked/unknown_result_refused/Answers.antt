use Rattle.std.proofs.Common.{[], ◌∷◌, ⊎_elim}
use Rattle.std.specs.Prelude.{Contains}
use Rattle.std.proofs.lemmas.List.Elements.{All-head}
use Rattle.priz_base.proofs.Members.{contains_cases, contains_none}
use Rattle.proof_term.proofs.worked.unknown_result_refused.Goals as goal

pub returns : goal.returns
returns c = λ d. ⊎_elim (λ e. cc) (contains_none 1) (contains_cases 2 [] 1 (All-head (Contains (2 ∷ [])) 1 [] d.1.0))
