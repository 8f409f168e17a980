use Rattle.std.proofs.Common.{◌↔◌, rules, tests}
use Rattle.std.specs.Prelude.{IsTrue, true, false}
use Rattle.std.proofs.lemmas.Iterator.{cases_from_any, YieldsList-from_slice}
use Rattle.kripke_check.specs.steps.Obeys.{AreSame}
use Rattle.kripke_check.proofs.Every.{some}
use Rattle.kripke_check.proofs.countermodel.has_same.Goals as goal

pub returns : goal.returns
returns c = some (AreSame c.args.world.now) c.args.worlds.now c.any.result (cases_from_any _ _ _ (λ x. IsTrue true ↔ AreSame c.args.world.now x) (λ x. IsTrue false ↔ AreSame c.args.world.now x) c.any.ensures.ran (YieldsList-from_slice c.args.worlds.now cc) (λ x q k. search (rules, tests)) (λ x q k. search (rules, tests)))
