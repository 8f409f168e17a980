use Rattle.token_lists.proofs.Readings.{text_tokens, tokens_from, first_are_all}
use Rattle.token_lists.proofs.laws.texts_have_a_reading.Goals as goal

pub returns-clause-text : goal.returns-clause-text
returns-clause-text c = text_tokens

pub returns-clause-left : goal.returns-clause-left
returns-clause-left c = tokens_from

pub returns-clause-all : goal.returns-clause-all
returns-clause-all c = first_are_all
