use Rattle.std.proofs.Common.{get_or, take}
use Rattle.std.proofs.lemmas.List.{take_all, get_or_default}
use Rattle.priz_base.proofs.Deciding.{never, always}
use Rattle.worked_problems.proofs.Distinct.{found, not_found, twice, distinct_more}
use Rattle.worked_problems.proofs.statement.are_distinct.Goals as goal

pub returns-then-contains : goal.returns-then-contains
returns-then-contains c =
    let xs = c.args.numbers.now in
    let i = c.loop-i.i in
    let v = get_or xs i 0 in
    let lt = c.loop-i-test.true in
    never (twice xs i v lt (get_or_default xs i 0 v lt) (found (take i xs) v c.if-contains.ensures.cases))

pub loop-i-preserved : goal.loop-i-preserved
loop-i-preserved c =
    let xs = c.args.numbers.now in
    let i = c.loop-i.i in
    let v = get_or xs i 0 in
    let lt = c.loop-i-test.true in
    distinct_more xs i v lt (get_or_default xs i 0 v lt) (not_found (take i xs) v c.if-contains.ensures.cases) c.loop-i.invariant

pub returns : goal.returns
returns c = always (rw (take_all c.loop-i.i c.args.numbers.now c.loop-i-test.false) at c.loop-i.invariant)
