-- Runs of nested blocks, worked out by hand.
use Rattle.std.specs.Prelude.{◌≡◌, ℕ, pos, List, [], ◌∷◌, map, Ok, Err}
use Rattle.priz_frac.specs.Ratio.{Ratio}
use Rattle.priz_frac.specs.Whole.{whole}
use Rattle.body_lang.specs.declared.op.Op.TheVariants.{Mul}
use Rattle.body_lang.specs.declared.run_fault.RunFault.TheVariants.{Turns}
use Rattle.body_lang.specs.BodyTree.{input, op}
use Rattle.body_lang.specs.Stop.{fault}
use Rattle.statement_set.specs.Problem.{Task}
use Rattle.statement_set.specs.Worked.{squares_sum, two_outputs, from_to, formula_for, sum_to_input, at_index, is_given}
use Rattle.proof_term.specs.Proof.{done, step, no_more, known, block}
use Rattle.proof_term.specs.Running.{goal_values}

-- whole numbers as values
abbrev pub numbers : List ℕ → List Ratio
numbers ns = map (λ n. whole (pos n)) ns

-- 1 + 4 + 9 + 16 is 30, in 9 turns: one for the step, and for each round one and one for the step inside
abbrev pub SquaresAreSummed : Type 0
SquaresAreSummed =
    let steps = step 1 (block (step 0 no_more done) no_more) done in
    (goal_values squares_sum steps (numbers (4 ∷ [])) 9 ≡ Ok (numbers (30 ∷ []), 0))
    × (goal_values squares_sum steps (numbers (4 ∷ [])) 8 ≡ Err (fault 0 Turns))

-- where x is given as 3, its square is known, and is taken 4 times: 36, in 6 turns
abbrev pub KnownResultsAreTaken : Type 0
KnownResultsAreTaken =
    goal_values (record squares_sum { givens = is_given 0 ∷ is_given 2 ∷ [] }) (step 0 no_more (step 1 (known no_more) done)) (numbers (3 ∷ 4 ∷ [])) 6
    ≡ Ok (numbers (36 ∷ []), 0)

-- a sum over i of a sum over j of i * j: cell = i * j, and a statement with a subtask for each sum
abbrev pub triangle : Task
triangle = record {
  names = (105 ∷ []) ∷ (106 ∷ []) ∷ (110 ∷ []) ∷ (115 ∷ []) ∷ (99 ∷ []) ∷ (116 ∷ []) ∷ [];
  equations = [];
  statements =
      formula_for 4 (0 ∷ 1 ∷ []) (op Mul (input 0) (input 1))
      ∷ record (formula_for 3 (0 ∷ []) (sum_to_input (at_index 0))) { subs = from_to 1 (4 ∷ []) ∷ [] }
      ∷ record (formula_for 5 (2 ∷ []) (sum_to_input (at_index 0))) { subs = from_to 0 (3 ∷ []) ∷ [] } ∷ [];
  givens = is_given 2 ∷ [];
  wants = 5 ∷ [];
}

-- 1 + (2 + 4) + (3 + 6 + 9) is 25, in 19 turns, and at 18 the last product stops
abbrev pub TriangleIsSummed : Type 0
TriangleIsSummed =
    let steps = step 2 (block (step 1 (block (step 0 no_more done) no_more) done) no_more) done in
    (goal_values triangle steps (numbers (3 ∷ [])) 19 ≡ Ok (numbers (25 ∷ []), 0))
    × (goal_values triangle steps (numbers (3 ∷ [])) 18 ≡ Err (fault 0 Turns))

-- the squares of 1, 2 and 3, each less the number after its root, are -1 + 1 + 5, in 16 turns; at 15 the last of these
-- numbers stops
abbrev pub SecondOutputsAreCalled : Type 0
SecondOutputsAreCalled =
    let steps = step 3 (block (step 0 no_more (step 1 no_more done)) no_more) done in
    (goal_values two_outputs steps (numbers (3 ∷ [])) 16 ≡ Ok (numbers (5 ∷ []), 0))
    × (goal_values two_outputs steps (numbers (3 ∷ [])) 15 ≡ Err (fault 1 Turns))
