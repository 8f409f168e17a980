use Rattle.body_lang.proofs.ExactRuns.{exact_follows, exact_follows_on_rows}
use Rattle.body_lang.proofs.laws.exact_meaning_ends_in_the_narrow_value.Goals as goal

pub returns-clause-same : goal.returns-clause-same
returns-clause-same c = exact_follows

pub returns-clause-on_rows : goal.returns-clause-on_rows
returns-clause-on_rows c = exact_follows_on_rows
