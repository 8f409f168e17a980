use Rattle.std.proofs.Common.{arith}
use Rattle.equation_statements.proofs.Places.{place_without}
use Rattle.equation_statements.proofs.variables.Variables.place_without.Goals as goal

pub returns-then-place : goal.returns-then-place
returns-then-place c =
    let r = place_without c.args.v c.args.w c.requires.other c.args.self.now (c.stand_once.ensures c.args.v) in
    let behind = r.behind (omega arith) in
    omega (arith, behind)

pub returns-else-place : goal.returns-else-place
returns-else-place c =
    let r = place_without c.args.v c.args.w c.requires.other c.args.self.now (c.stand_once.ensures c.args.v) in
    let before = r.before (omega arith) in
    omega (arith, before)
