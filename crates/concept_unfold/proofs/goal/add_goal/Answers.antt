use Rattle.std.proofs.Common.{ℕ, List, subst, sym, ap}
use Rattle.statement_set.specs.Problem.{Task}
use Rattle.utopist_syntax.specs.declared.path.Path.{Path}
use Rattle.utopist_syntax.specs.declared.compute.GivenPath.{GivenPath}
use Rattle.concept_rules.specs.Paths.{given_paths}
use Rattle.concept_unfold.specs.Unfolded.{AreKnown}
use Rattle.concept_unfold.proofs.goal.add_goal.Goals as goal

pub add_givens-requires-clause-known : goal.add_givens-requires-clause-known
add_givens-requires-clause-known c = subst (λ (gs : List GivenPath). AreKnown c.args.problem.now.names (given_paths gs)) (sym c.as_slice.ensures) c.requires.givens

pub add_wants-requires-clause-known : goal.add_wants-requires-clause-known
add_wants-requires-clause-known c =
    let wants = c.as_slice-2.result.now in
    subst (λ (vars : List (List ℕ)). AreKnown vars wants) (sym (ap (λ (p : Task). p.names) c.in_ok-add_givens.ensures.added))
    (subst (λ (ps : List Path). AreKnown c.args.problem.now.names ps) (sym c.as_slice-2.ensures) c.requires.wants)
