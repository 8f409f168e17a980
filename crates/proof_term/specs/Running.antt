-- What a block gives: the values of the variables at its end, or the first stop.
use Rattle.std.specs.Prelude.{ℕ, zero, suc, pos, List, [], ◌∷◌, length, map, slice_get, slice_set, slice_index, replicate, None, unwrap_or, Result, Ok, Err}
use Rattle.priz_frac.specs.Ratio.{Ratio}
use Rattle.priz_frac.specs.Whole.{whole}
use Rattle.body_lang.specs.BodyTree.{BodyTree, num}
use Rattle.body_lang.specs.Precision.{narrowly}
use Rattle.body_lang.specs.Values.{value_at}
use Rattle.body_lang.specs.Meaning.{Calls, mean}
use Rattle.body_lang.specs.Run.{Ran, then_with, turn_then}
use Rattle.body_lang.specs.Stop.{Stop, no_row}
use Rattle.statement_set.specs.declared.subtask.Subtask.{Subtask}
use Rattle.statement_set.specs.declared.statement.Statement.{Statement}
use Rattle.statement_set.specs.Problem.{Task, given_vars, results}
use Rattle.proof_term.specs.Proof.{Steps, done, step, Subs, no_more, known, block}

-- an environment has a value for each variable, by its number
abbrev pub Env : Type 0
Env = List Ratio

-- the statement of this number; one that gives nothing where there is none, which no step of a proof has
abbrev pub statement_at : Task → ℕ → Statement
statement_at p n = unwrap_or (slice_get p.statements n) (record { inputs = []; subs = []; output = 0; body = None })

-- its body; 0 where there is none
abbrev pub statement_body : Task → ℕ → BodyTree
statement_body p n = unwrap_or (statement_at p n).body (num (whole (pos 0)))

-- the environment in which variables have these values
abbrev pub with_values : Env → List ℕ → List Ratio → Env
with_values e [] values = e
with_values e (v ∷ vars) [] = e
with_values e (v ∷ vars) (x ∷ values) = with_values (slice_set e v x) vars values

-- the value of a subtask's result; a checked body asks for none that the subtask lacks
abbrev pub result_at : Env → Subtask → ℕ → Ratio
result_at e u out = value_at e (slice_index (results u) out)

-- a step: a turn, and then the body, whose value the output gets
abbrev pub one_step : Task → ℕ → Calls → Env → ℕ → Result (Env × ℕ) Stop
one_step p n calls e turns =
    then_with
    (turn_then narrowly n turns (λ left.
    mean narrowly n calls (map (value_at e) (statement_at p n).inputs) (statement_body p n) [] left))
    (λ value left. Ok (slice_set e (statement_at p n).output value, left))

module _ (p : Task) where
  abbrev mutual
    -- the environment at the end of a block, whose steps are taken one after another
    pub run : Steps → Env → ℕ → Result (Env × ℕ) Stop
    run done e turns = Ok (e, turns)
    run (step n subs more) e turns =
        then_with (one_step p n (called subs (statement_at p n).subs e) e turns) (λ next left. run more next left)

    -- what a call of a result of the k-th subtask gives: its value in the environment, or at the end of the block that
    -- runs with the arguments
    pub called : Subs → List Subtask → Env → (k out : ℕ) → List Ratio → ℕ → Ran
    called no_more us e k out arguments turns = Err no_row
    called (known more) [] e k out arguments turns = Err no_row
    called (known more) (u ∷ us) e zero out arguments turns = Ok (result_at e u out, turns)
    called (known more) (u ∷ us) e (suc k) out arguments turns = called more us e k out arguments turns
    called (block b more) [] e k out arguments turns = Err no_row
    called (block b more) (u ∷ us) e zero out arguments turns =
        then_with (run b (with_values e u.inputs arguments) turns) (λ end left. Ok (result_at end u out, left))
    called (block b more) (u ∷ us) e (suc k) out arguments turns = called more us e k out arguments turns

-- where a run of the goal starts: what is given has its value
abbrev pub start_of : Task → List Ratio → Env
start_of p values = with_values (replicate (length p.names) (whole (pos 0))) (given_vars p) values

-- the values of the wants, in order
abbrev pub goal_values : Task → Steps → List Ratio → ℕ → Result (List Ratio × ℕ) Stop
goal_values p b values turns =
    then_with (run p b (start_of p values) turns) (λ end left. Ok (map (value_at end) p.wants, left))
