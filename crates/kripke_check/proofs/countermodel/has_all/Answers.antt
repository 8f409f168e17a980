use Rattle.std.proofs.Common.{◌↔◌, rules, tests}
use Rattle.std.specs.Prelude.{IsTrue, Contains, true, false}
use Rattle.std.proofs.lemmas.Iterator.{cases_from_all, YieldsList-from_slice}
use Rattle.kripke_check.proofs.Every.{every}
use Rattle.kripke_check.proofs.countermodel.has_all.Goals as goal

pub returns : goal.returns
returns c = every (Contains c.args.world.now) c.args.vars.now c.all.result (cases_from_all _ _ _ (λ v. IsTrue true ↔ Contains c.args.world.now v) (λ v. IsTrue false ↔ Contains c.args.world.now v) c.all.ensures.ran (YieldsList-from_slice c.args.vars.now cc) (λ x q k. search (rules, tests)) (λ x q k. search (rules, tests)))
