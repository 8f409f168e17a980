-- What an answer to a problem is.
use Rattle.std.specs.Prelude.{ℕ, List, Bool, IsTrue}
use Rattle.statement_set.specs.Problem.{Task}
use Rattle.statement_set.specs.Goal.{IsDerivable}
use Rattle.statement_set.specs.Countermodel.{IsCountermodel}
use Rattle.proof_term.specs.Proof.{Steps, ProvesGoal}
use Rattle.answer_core.specs.declared.effort.Effort.{Effort}
use Rattle.answer_core.specs.declared.values.Values.{Values}
use Rattle.answer_core.specs.declared.verdict.Answer.{Answer}
use Rattle.answer_core.specs.declared.verdict.Answer.TheVariants as answer
use Rattle.answer_core.specs.Values.{IsValues}

-- the block is a proof of the goal, which is derivable, and computes these values within the effort; it is separate,
-- since no statement has a subtask
pub record IsProgram (p : Task) (effort : Effort) (b : Steps) (word : Bool) (v : Values) : Type 0 where
  pub proof : ProvesGoal p b
  pub derivable : IsDerivable p
  pub separate : IsTrue word
  pub values : IsValues p b effort.turns v

-- the worlds are a countermodel of the goal, which is not derivable
pub record IsRefusal (p : Task) (L : List (List ℕ)) : Type 0 where
  pub countermodel : IsCountermodel p L
  pub underivable : ¬ IsDerivable p

-- the answer is right for the problem, and found within the effort
abbrev pub IsAnswer : Task → Effort → Answer → Type 0
IsAnswer p effort (answer.Program b separate v) = IsProgram p effort b separate v
IsAnswer p effort (answer.NoProgram L) = IsRefusal p L
