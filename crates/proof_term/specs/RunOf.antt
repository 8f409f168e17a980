-- What a stop of the evaluator stands for.
use Rattle.std.specs.Prelude.{◌≡◌, Result, Err}
use Rattle.body_lang.specs.Stop.{Stop, fault}
use Rattle.proof_term.specs.declared.run_stop.RunStop.{RunStop}
use Rattle.proof_term.specs.declared.run_stop.RunStop.TheVariants.{Fault, NoMem}

-- the meaning stops with this fault; want of memory says nothing
abbrev pub StopsAs : {A : Type 0} → RunStop → Result A Stop → Type 0
StopsAs (Fault stmt kind) meaning = meaning ≡ Err (fault stmt kind)
StopsAs NoMem meaning = Unit {0}
