use Rattle.canonical_reading.proofs.RoundTrip.{read_back}
use Rattle.canonical_reading.proofs.laws.canonical_text_is_read_back.Goals as goal

pub returns : goal.returns
returns c = read_back
