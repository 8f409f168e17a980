use Rattle.std.proofs.Common.{refl}
use Rattle.priz_frac.specs.Gcd.{gcd}
use Rattle.utopist_parser.proofs.laws.examples_are_read_as_they_should.Goals as goal

pub returns-clause-numbers : goal.returns-clause-numbers
unfolding gcd
returns-clause-numbers c = (refl, refl, refl)

pub returns-clause-file : goal.returns-clause-file
unfolding gcd
returns-clause-file c = (refl, refl)
