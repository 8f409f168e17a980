use Rattle.std.proofs.Common.{◌≡◌, take}
use Rattle.std.specs.List.{filter}
use Rattle.equation_statements.proofs.Times.{is_other}
use Rattle.equation_statements.proofs.statements.others_of.Given as goal

abbrev pub invariant-loop-w : goal.invariant-loop-w
invariant-loop-w l = l.others ≡ filter (is_other l.v) (take l.w-index l.variables)
