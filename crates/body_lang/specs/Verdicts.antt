-- Verdicts on parts that are looked at one after another: the first fault counts.
use Rattle.std.specs.Prelude.{Bool, true, false, Result, Ok, Err}

-- no fault, or the first one
abbrev pub Verdict : Type 0 → Type 0
Verdict E = Result (Unit {0}) E

-- the first verdict, or the second where the first has no fault
abbrev pub and_then : {E : Type 0} → Verdict E → Verdict E → Verdict E
and_then (Ok u) next = next
and_then (Err e) next = Err e

-- the fault, where the test fails
abbrev pub fault_unless : {E : Type 0} → Bool → E → Verdict E
fault_unless true e = Ok tt
fault_unless false e = Err e
