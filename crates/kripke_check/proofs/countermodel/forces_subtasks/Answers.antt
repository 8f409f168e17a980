use Rattle.std.proofs.Common.{◌↔◌, rules, tests}
use Rattle.std.specs.Prelude.{IsTrue, true, false}
use Rattle.std.proofs.lemmas.Iterator.{cases_from_all, YieldsList-from_slice}
use Rattle.kripke_check.specs.steps.Obeys.{ForcesSubtask}
use Rattle.kripke_check.proofs.Every.{every}
use Rattle.kripke_check.proofs.countermodel.forces_subtasks.Goals as goal

pub returns : goal.returns
returns c = every (ForcesSubtask c.args.worlds.now c.args.world.now) c.args.subs.now c.all.result (cases_from_all _ _ _ (λ x. IsTrue true ↔ (ForcesSubtask c.args.worlds.now c.args.world.now) x) (λ x. IsTrue false ↔ (ForcesSubtask c.args.worlds.now c.args.world.now) x) c.all.ensures.ran (YieldsList-from_slice c.args.subs.now cc) (λ x q k. search (rules, tests)) (λ x q k. search (rules, tests)))
