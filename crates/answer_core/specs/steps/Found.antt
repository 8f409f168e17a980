-- What forward search finds.
use Rattle.statement_set.specs.Problem.{Task}
use Rattle.statement_set.specs.Countermodel.{IsCountermodel}
use Rattle.proof_term.specs.Proof.{ProvesGoal}
use Rattle.answer_core.specs.declared.search.Found.{Found}
use Rattle.answer_core.specs.declared.search.Found.TheVariants as found

-- a proof of the goal, or a countermodel of it
abbrev pub IsFound : Task → Found → Type 0
IsFound p (found.Derived b) = ProvesGoal p b
IsFound p (found.Refuted L) = IsCountermodel p L
