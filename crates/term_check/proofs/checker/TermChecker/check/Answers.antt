use Rattle.statement_set.specs.Problem.{given_vars}
use Rattle.proof_term.proofs.Blocks.{derivable}
use Rattle.term_check.proofs.Proofs.{goal_decided}
use Rattle.term_check.proofs.checker.TermChecker.check.Goals as goal

pub returns-clause-exact : goal.returns-clause-exact
returns-clause-exact c = goal_decided c.args.p.now c.givens_of-self.result c.args.b.now c.gives.result c.givens_of-self.ensures (rw c.wants.ensures.list at c.gives.ensures)

pub returns-clause-sound : goal.returns-clause-sound
returns-clause-sound c = λ t. derivable c.args.p.now (given_vars c.args.p.now) c.args.b.now ((returns-clause-exact c).0 t)
