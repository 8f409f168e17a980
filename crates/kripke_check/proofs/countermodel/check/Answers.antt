use Rattle.std.proofs.Common.{◌↔◌, rules}
use Rattle.std.specs.Prelude.{IsTrue}
use Rattle.statement_set.specs.Problem.{given_vars}
use Rattle.statement_set.specs.Countermodel.{IsCountermodel}
use Rattle.statement_set.proofs.Models.{refutes}
use Rattle.kripke_check.proofs.countermodel.check.Goals as goal

pub returns-then-are_vars-clause-sound : goal.returns-then-are_vars-clause-sound
returns-then-are_vars-clause-sound c =
    let exact : IsTrue c.refutes.result ↔ IsCountermodel c.args.p.now c.args.w.now = search rules in
    λ t d. refutes c.args.p.now (given_vars c.args.p.now) c.args.w.now (exact.0 t) d
