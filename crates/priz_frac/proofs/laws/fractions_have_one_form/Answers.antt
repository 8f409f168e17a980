use Rattle.priz_frac.proofs.Divisors.{gcd_is}
use Rattle.priz_frac.proofs.Lowest.{low_is_lowest}
use Rattle.priz_frac.proofs.Unique.{low_is_same, low-same_iff}
use Rattle.priz_frac.proofs.laws.fractions_have_one_form.Goals as goal

pub returns-clause-divisor : goal.returns-clause-divisor
returns-clause-divisor c = gcd_is

pub returns-clause-lowest : goal.returns-clause-lowest
returns-clause-lowest c = low_is_lowest

pub returns-clause-same : goal.returns-clause-same
returns-clause-same c x h = low_is_same x

pub returns-clause-one : goal.returns-clause-one
returns-clause-one c = low-same_iff
