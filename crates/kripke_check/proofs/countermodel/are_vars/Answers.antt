use Rattle.std.proofs.Common.{◌↔◌, rules, tests}
use Rattle.std.specs.Prelude.{All, IsTrue, true, false}
use Rattle.std.proofs.lemmas.Iterator.{cases_from_all, YieldsList-from_slice}
use Rattle.priz_base.specs.Sets.{IsWithin}
use Rattle.priz_base.proofs.Deciding.{trans}
use Rattle.statement_set.specs.Forcing.{World}
use Rattle.kripke_check.proofs.Every.{every}
use Rattle.kripke_check.proofs.Models.{all_vars}
use Rattle.kripke_check.proofs.countermodel.are_vars.Goals as goal

pub returns : goal.returns
returns c =
    let vars = c.first_vars-vars.result in
    let each : IsTrue c.all.result ↔ All (λ (w : World). IsWithin w vars) c.args.worlds.now = every (λ (w : World). IsWithin w vars) c.args.worlds.now c.all.result (cases_from_all _ _ _ (λ (w : World). IsTrue true ↔ IsWithin w vars) (λ (w : World). IsTrue false ↔ IsWithin w vars) c.all.ensures.ran (YieldsList-from_slice c.args.worlds.now cc) (λ x q k. search (rules, tests)) (λ x q k. search (rules, tests))) in
    trans each (all_vars vars c.args.n c.args.worlds.now c.first_vars-vars.ensures)
