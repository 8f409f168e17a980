use Rattle.std.proofs.Common.{◌↔◌, ℕ, rules, tests}
use Rattle.std.specs.Prelude.{Contains, IsTrue, true, false}
use Rattle.std.proofs.lemmas.Iterator.{cases_from_all, YieldsList-from_slice}
use Rattle.term_check.proofs.Every.{every}
use Rattle.term_check.proofs.scope.are_new.Goals as goal

pub returns : goal.returns
returns c = every (λ (v : ℕ). ¬ Contains c.args.scope.now v) c.args.vars.now c.all.result (cases_from_all _ _ _ (λ (v : ℕ). IsTrue true ↔ (λ (v : ℕ). ¬ Contains c.args.scope.now v) v) (λ (v : ℕ). IsTrue false ↔ (λ (v : ℕ). ¬ Contains c.args.scope.now v) v) c.all.ensures.ran (YieldsList-from_slice c.args.vars.now cc) (λ x q k. search (rules, tests)) (λ x q k. search (rules, tests)))
