-- How a result of the evaluator stands for the meaning of a body.
use Rattle.std.specs.Prelude.{◌≡◌, ℕ, [], ◌∷◌, ◌++◌, Result, Ok, Err}
use Rattle.priz_frac.specs.Ratio.{Ratio}
use Rattle.body_lang.specs.declared.run_fault.RunFault.{RunFault}
use Rattle.body_lang.specs.BodyTree.{BodyTree}
use Rattle.body_lang.specs.Precision.{narrowly}
use Rattle.body_lang.specs.Run.{Ran}
use Rattle.body_lang.specs.Stop.{Stop, fault}
use Rattle.body_lang.specs.Meaning.{Calls, mean}
use Rattle.proof_term.specs.declared.evaluate.Frame.{Frame}
use Rattle.proof_term.specs.steps.LocalValues.{local_values}

-- the same value and turns, or the same fault in the statement
abbrev pub Agrees : {A : Type 0} → ℕ → Result A RunFault → Result A Stop → Type 0
Agrees owner (Ok v) meaning = meaning ≡ Ok v
Agrees owner (Err kind) meaning = meaning ≡ Err (fault owner kind)

module _ (owner : ℕ) (calls : Calls) (f : Frame) where
  -- the meaning of a body in the frame
  abbrev pub means : BodyTree → ℕ → Ran
  means b turns = mean narrowly owner calls f.inputs.now b (local_values f.locals.now) turns

  -- the part that a loop repeats, at its variable's value
  abbrev pub repeated_part : BodyTree → Ratio → ℕ → Ran
  repeated_part e v turns = mean narrowly owner calls f.inputs.now e (local_values f.locals.now ++ v ∷ []) turns
