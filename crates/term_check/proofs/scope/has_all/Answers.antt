use Rattle.std.proofs.Common.{◌↔◌, rules, tests}
use Rattle.std.specs.Prelude.{Contains, IsTrue, true, false}
use Rattle.std.proofs.lemmas.Iterator.{cases_from_all, YieldsList-from_slice}
use Rattle.term_check.proofs.Every.{every}
use Rattle.term_check.proofs.scope.has_all.Goals as goal

pub returns : goal.returns
returns c = every (Contains c.args.scope.now) c.args.vars.now c.all.result (cases_from_all _ _ _ (λ v. IsTrue true ↔ (Contains c.args.scope.now) v) (λ v. IsTrue false ↔ (Contains c.args.scope.now) v) c.all.ensures.ran (YieldsList-from_slice c.args.vars.now cc) (λ x q k. search (rules, tests)) (λ x q k. search (rules, tests)))
