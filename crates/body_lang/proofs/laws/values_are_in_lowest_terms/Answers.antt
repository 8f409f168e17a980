use Rattle.body_lang.specs.Precision.{narrowly}
use Rattle.body_lang.proofs.KeptValues.{meaning_keeps}
use Rattle.body_lang.proofs.LowestValues.{lowest_is_kept, narrow_is_kept}
use Rattle.body_lang.proofs.laws.values_are_in_lowest_terms.Goals as goal

pub returns-clause-lowest : goal.returns-clause-lowest
returns-clause-lowest c = λ precision. meaning_keeps _ precision (lowest_is_kept precision)

pub returns-clause-narrow : goal.returns-clause-narrow
returns-clause-narrow c = meaning_keeps _ narrowly narrow_is_kept
