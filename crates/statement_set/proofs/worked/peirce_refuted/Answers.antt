use Rattle.std.proofs.Common.{[]}
use Rattle.statement_set.specs.Worked.{peirce}
use Rattle.statement_set.proofs.Models.{refutes}
use Rattle.statement_set.proofs.Examples.{two_worlds}
use Rattle.statement_set.proofs.worked.peirce_refuted.Goals as goal

pub returns-clause-worlds : goal.returns-clause-worlds
returns-clause-worlds c = two_worlds

pub returns-clause-goal : goal.returns-clause-goal
returns-clause-goal c = λ d. refutes peirce [] _ two_worlds d
