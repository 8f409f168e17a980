use Rattle.std.proofs.Common.{ℕ, List, ap, Bor, rules}
use Rattle.std.specs.Prelude.{IsSome}
use Rattle.statement_set.specs.Problem.{Task}
use Rattle.worked_problems.proofs.Distinct.{twice_at}
use Rattle.worked_problems.proofs.problem.add_names.Goals as goal

pub returns-then-is_some-clause-fault : goal.returns-then-is_some-clause-fault
returns-then-is_some-clause-fault c =
    let some : IsSome c.find.result = search rules in
    let among = c.find.ensures.found.0 some in
    let names = ap (λ (p : Task). p.names) c.loop-name.invariant in
    twice_at (λ (n : Bor (List ℕ)). n.now) c.args.row.now.names.now c.loop-name.name-index _ c.loop-name-test.true (rw names at among)
