use Rattle.std.proofs.Common.{◌↔◌, rules, tests}
use Rattle.std.specs.Prelude.{IsTrue, Contains, true, false}
use Rattle.std.proofs.lemmas.Iterator.{cases_from_all, YieldsList-from_slice}
use Rattle.statement_set.specs.declared.given.Given.{Given}
use Rattle.kripke_check.proofs.Every.{every}
use Rattle.kripke_check.proofs.countermodel.has_givens.Goals as goal

pub returns : goal.returns
returns c = every (λ (g : Given). Contains c.args.world.now g.var) c.args.givens.now c.all.result (cases_from_all _ _ _ (λ x. IsTrue true ↔ (λ (g : Given). Contains c.args.world.now g.var) x) (λ x. IsTrue false ↔ (λ (g : Given). Contains c.args.world.now g.var) x) c.all.ensures.ran (YieldsList-from_slice c.args.givens.now cc) (λ x q k. search (rules, tests)) (λ x q k. search (rules, tests)))
