-- Runs, and how one goes on after another.
use Rattle.std.specs.Prelude.{ℕ, zero, suc, Result, Ok, Err}
use Rattle.priz_frac.specs.Ratio.{Ratio}
use Rattle.body_lang.specs.declared.run_fault.RunFault.TheVariants.{Turns}
use Rattle.body_lang.specs.Precision.{Precision, narrowly, exactly}
use Rattle.body_lang.specs.Stop.{Stop, fault}

-- a value and the turns left, or the first stop
abbrev pub Ran : Type 0
Ran = Result (Ratio × ℕ) Stop

-- goes on with what was run, unless that stopped
abbrev pub then_with : {A B : Type 0} → Result (A × ℕ) Stop → (A → ℕ → Result (B × ℕ) Stop) → Result (B × ℕ) Stop
then_with (Ok (value, turns)) go = go value turns
then_with (Err stop) go = Err stop

-- runs one part and then another, and goes on with both values
abbrev pub then_both : Ran → (ℕ → Ran) → (Ratio → Ratio → ℕ → Ran) → Ran
then_both first second go = then_with first (λ x left. then_with (second left) (λ y turns. go x y turns))

-- takes a turn for the statement, and goes on
abbrev pub turn_then : {B : Type 0} → Precision → ℕ → ℕ → (ℕ → Result (B × ℕ) Stop) → Result (B × ℕ) Stop
turn_then narrowly owner zero go = Err (fault owner Turns)
turn_then narrowly owner (suc left) go = go left
turn_then exactly owner turns go = go turns
