-- The words for each kind of program and of fault.
use Rattle.std.specs.Prelude.{ℕ, List, Bool, true, false, codes}
use Rattle.body_lang.specs.declared.run_fault.RunFault.{RunFault}
use Rattle.body_lang.specs.declared.run_fault.RunFault.TheVariants as kind

-- whether no input of a subtask is known where the subtask is answered
abbrev pub separate_text : Bool → List ℕ
separate_text true = codes "program separate\n"
separate_text false = codes "program mixed\n"

-- why a run ends
abbrev pub fault_text : RunFault → List ℕ
fault_text kind.ZeroDivisor = codes "zero divisor"
fault_text kind.Width = codes "width"
fault_text kind.NotWhole = codes "not whole"
fault_text kind.NegativeBound = codes "negative bound"
fault_text kind.Turns = codes "turns"
