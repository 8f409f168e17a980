use Rattle.token_forms.proofs.CaseLaws.{goes_on, begins}
use Rattle.token_forms.proofs.laws.symbols_begin_forms.Goals as goal

pub returns : goal.returns
returns c = λ f ts. (goes_on f ts, λ x. begins f ts x.0 x.1)
