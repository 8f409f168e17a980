use Rattle.term_check.proofs.Separations.{goal_separate}
use Rattle.term_check.proofs.checker.TermChecker.separate.Goals as goal

pub returns : goal.returns
returns c = goal_separate c.args.p.now c.givens_of-self.result c.args.b.now c.is_separate.result c.givens_of-self.ensures c.is_separate.ensures
