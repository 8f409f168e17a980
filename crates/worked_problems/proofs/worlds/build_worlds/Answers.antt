use Rattle.std.proofs.Common.{ℕ, List, arith, Bor}
use Rattle.statement_set.specs.Problem.{AreVars}
use Rattle.priz_base.proofs.Deciding.{not_so}
use Rattle.worked_problems.proofs.Added.{refused_at}
use Rattle.worked_problems.proofs.WorldLists.{front_fits, worlds_more}
use Rattle.worked_problems.proofs.worlds.build_worlds.Goals as goal

pub returns-then-not-are_vars-clause-fault : goal.returns-then-not-are_vars-clause-fault
returns-then-not-are_vars-clause-fault c =
    refused_at (AreVars 1024) (λ (r : Bor (List ℕ)). r.now) c.args.rows.now c.loop-row.row-index _ c.loop-row-test.true (not_so c.are_vars.result c.are_vars.ensures c.if-not-are_vars.true)

pub push-requires : goal.push-requires
push-requires c =
    let l = front_fits c.args.rows.now c.loop-row.row-index c.loop-row.worlds c.loop-row-test.true c.loop-row.invariant in
    omega (arith, l, c.loop-row-test.true)

pub loop-row-preserved : goal.loop-row-preserved
loop-row-preserved c = worlds_more c.args.rows.now c.loop-row.row-index _ c.loop-row.worlds c.push.new.self c.world_of.result c.loop-row-test.true c.loop-row.invariant c.world_of.ensures c.in_ok-push.ensures.ok
