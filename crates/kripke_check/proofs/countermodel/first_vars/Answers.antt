use Rattle.std.proofs.Common.{arith}
use Rattle.kripke_check.proofs.Models.{first_more}
use Rattle.kripke_check.proofs.countermodel.first_vars.Goals as goal

pub loop-v-preserved : goal.loop-v-preserved
loop-v-preserved c = first_more c.loop-v.vars c.add.new.self c.loop-v.v c.add.ensures c.loop-v.invariant

pub returns : goal.returns
returns c = λ v. (λ h. omega (arith, (c.loop-v.invariant v).0 h), λ lt. (c.loop-v.invariant v).1 (omega (arith, lt)))
