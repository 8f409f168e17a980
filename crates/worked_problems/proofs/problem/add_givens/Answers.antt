use Rattle.std.proofs.Common.{length, get_or, take, ap, subst, ◌∙◌, sym}
use Rattle.std.specs.Prelude.{Contains}
use Rattle.std.proofs.lemmas.List.{get_or_default}
use Rattle.priz_base.proofs.Deciding.{not_so}
use Rattle.statement_set.specs.Problem.{AreVars, given_vars}
use Rattle.worked_problems.specs.Faults.{AreDistinct}
use Rattle.worked_problems.proofs.Added.{given_numbers}
use Rattle.worked_problems.proofs.Distinct.{twice}
use Rattle.worked_problems.proofs.problem.add_givens.Goals as goal

pub returns-then-not-are_vars-clause-fault : goal.returns-then-not-are_vars-clause-fault
returns-then-not-are_vars-clause-fault c = λ h.
    let count = c.vars.ensures.count ∙ ap length c.requires.names in
    let all = subst (λ n. AreVars n c.args.row.now.givens.now) (sym count) (subst (AreVars _) (given_numbers c.args.row.now.givens.now) h) in
    not_so c.are_vars.result c.are_vars.ensures c.if-not-are_vars.true all

pub returns-then-not-are_distinct-clause-fault : goal.returns-then-not-are_distinct-clause-fault
returns-then-not-are_distinct-clause-fault c = λ h.
    not_so c.are_distinct.result c.are_distinct.ensures c.if-not-are_distinct.true (subst AreDistinct (given_numbers c.args.row.now.givens.now) h)

pub add_given-requires-clause-fresh : goal.add_given-requires-clause-fresh
add_given-requires-clause-fresh c = λ h.
    let vs = c.args.row.now.givens.now in
    let i = c.loop-given.given-index in
    let v = get_or vs i 0 in
    let lt = c.loop-given-test.true in
    let given = ap given_vars c.loop-given.invariant ∙ given_numbers (take i vs) in
    twice vs i v lt (get_or_default vs i 0 v lt) (subst (λ ws. Contains ws v) given h) (c.are_distinct.ensures.0 c.if-not-are_distinct.false)
