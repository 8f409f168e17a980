use Rattle.std.proofs.Common.{length}
use Rattle.utopist_lexer.specs.Characters.{has}
use Rattle.utopist_lexer.proofs.Runs.{RunSoFar}
use Rattle.utopist_lexer.proofs.run.cut_run.Given as goal

abbrev pub invariant-run : goal.invariant-run
invariant-run l = RunSoFar (has l.class) l.text l.rest

abbrev pub decreases-run : goal.decreases-run
decreases-run l = length l.rest
