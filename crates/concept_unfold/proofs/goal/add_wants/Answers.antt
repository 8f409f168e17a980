use Rattle.std.proofs.Common.{ℕ, List, subst, sym, ap}
use Rattle.statement_set.specs.Problem.{Task}
use Rattle.concept_unfold.specs.Paths.{IsOneOf}
use Rattle.concept_unfold.proofs.Places.{known_at}
use Rattle.concept_unfold.proofs.goal.add_wants.Goals as goal

pub var_of-requires : goal.var_of-requires
var_of-requires c =
    subst (λ (vars : List (List ℕ)). IsOneOf vars c.path-item.result) (sym (ap (λ (p : Task). p.names) c.loop-path.invariant.same))
    (known_at c.args.problem.now.names c.args.paths.now c.loop-path.path-index c.path-item.result c.loop-path-test.true c.path-item.is c.requires.known)
