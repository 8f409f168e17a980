use Rattle.std.proofs.Common.{◌↔◌, rules, tests}
use Rattle.std.specs.Prelude.{IsTrue, true, false}
use Rattle.std.proofs.lemmas.Iterator.{cases_from_all, YieldsList-from_slice}
use Rattle.kripke_check.specs.steps.Obeys.{Keeps}
use Rattle.kripke_check.proofs.Every.{every}
use Rattle.kripke_check.proofs.countermodel.forces_subtask.Goals as goal

pub returns : goal.returns
returns c = every (Keeps c.args.world.now c.args.t.now) c.args.worlds.now c.all.result (cases_from_all _ _ _ (λ x. IsTrue true ↔ (Keeps c.args.world.now c.args.t.now) x) (λ x. IsTrue false ↔ (Keeps c.args.world.now c.args.t.now) x) c.all.ensures.ran (YieldsList-from_slice c.args.worlds.now cc) (λ x q k. search (rules, tests)) (λ x q k. search (rules, tests)))
