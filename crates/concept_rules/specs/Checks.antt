-- What a check answers.
use Rattle.std.specs.Prelude.{◌≡◌, Result, Ok, Err}
use Rattle.body_lang.specs.Verdicts.{Verdict}
use Rattle.concept_rules.specs.declared.fault.ModelFault.{ModelFault}
use Rattle.concept_rules.specs.declared.fault.UnfoldFault.{UnfoldFault}
use Rattle.concept_rules.specs.declared.fault.UnfoldFault.TheVariants as fault

-- Ok where there is no fault, else the first fault; or memory ran out
abbrev pub Checks : {X : Type 0} → Verdict ModelFault → Result X UnfoldFault → Type 0
Checks verdict (Ok x) = verdict ≡ Ok tt
Checks verdict (Err (fault.Model f)) = verdict ≡ Err f
Checks verdict (Err fault.NoMem) = Unit {0}
