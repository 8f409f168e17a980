-- Verdicts without a fault.
use Rattle.std.proofs.Common.{◌≡◌, Bool, true, false, Ok, Err, refl, ap, ◌∙◌}
use Rattle.body_lang.specs.Verdicts.{Verdict, and_then, fault_unless}

-- of two without a fault the first has none
pub first_passes : {E : Type 0} (v w : Verdict E) → and_then v w ≡ Ok tt → v ≡ Ok tt
first_passes (Ok u) w e = refl
first_passes (Err f) w e = absurd (cc)

-- nor has the second
pub second_passes : {E : Type 0} (v w : Verdict E) → and_then v w ≡ Ok tt → w ≡ Ok tt
second_passes (Ok u) w e = e
second_passes (Err f) w e = absurd (cc)

-- where neither has a fault, both together have none
pub both_pass : {E : Type 0} (v w : Verdict E) → v ≡ Ok tt → w ≡ Ok tt → and_then v w ≡ Ok tt
both_pass v w e d = ap (λ x. and_then x w) e ∙ d

-- the test holds where there is no fault
pub test_passes : {E : Type 0} (b : Bool) (f : E) → fault_unless b f ≡ Ok tt → b ≡ true
test_passes true f e = refl
test_passes false f e = absurd (cc)
