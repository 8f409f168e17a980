-- What a program computes.
use Rattle.std.specs.Prelude.{◌≡◌, ℕ, List, map, find, not, is_some, Option, Some, None, Ok, Err}
use Rattle.std.specs.Option.{option_map}
use Rattle.priz_frac.specs.Ratio.{Ratio}
use Rattle.body_lang.specs.Stop.{fault}
use Rattle.statement_set.specs.declared.given.Given.{Given}
use Rattle.statement_set.specs.Problem.{Task}
use Rattle.proof_term.specs.Proof.{Steps}
use Rattle.proof_term.specs.Bodies.{first_without_body}
use Rattle.proof_term.specs.Running.{goal_values}
use Rattle.answer_core.specs.declared.values.Values.{Values}
use Rattle.answer_core.specs.declared.values.Values.TheVariants as values

-- the first given that has no number, or none
abbrev pub first_without_number : List Given → Option ℕ
first_without_number gs = option_map (λ g. g.var) (find (λ g. not (is_some g.value)) gs)

-- all that is given has a number, and these are the numbers
abbrev pub AreNumbers : List Given → List Ratio → Type 0
AreNumbers gs xs = map (λ g. g.value) gs ≡ map Some xs

-- the block can be run on these numbers
pub record Runs (p : Task) (b : Steps) (xs : List Ratio) : Type 0 where
  pub numbers : AreNumbers p.givens xs
  pub bodies : first_without_body p b ≡ None

-- what the block computes in so many turns: the wants' values, or the first fault of the run, or what a run lacks
abbrev pub IsValues : Task → Steps → ℕ → Values → Type 0
IsValues p b turns (values.All ys) = (xs : List Ratio) × Runs p b xs × ((left : ℕ) × (goal_values p b xs turns ≡ Ok (ys, left)))
IsValues p b turns (values.Fault s kind) = (xs : List Ratio) × Runs p b xs × (goal_values p b xs turns ≡ Err (fault s kind))
IsValues p b turns (values.NoNumber v) = first_without_number p.givens ≡ Some v
IsValues p b turns (values.NoBody s) = (xs : List Ratio) × AreNumbers p.givens xs × (first_without_body p b ≡ Some s)
