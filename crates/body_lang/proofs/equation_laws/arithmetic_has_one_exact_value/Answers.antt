use Rattle.body_lang.proofs.ExactValues.{one_exact_value}
use Rattle.body_lang.proofs.equation_laws.arithmetic_has_one_exact_value.Goals as goal

pub returns : goal.returns
returns c = one_exact_value
