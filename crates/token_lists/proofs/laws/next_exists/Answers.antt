use Rattle.token_lists.proofs.Next.{next_exists, stands_behind}
use Rattle.token_lists.proofs.LexerAnswers.{answers_exist}
use Rattle.token_lists.proofs.laws.next_exists.Goals as goal

pub returns-clause-next : goal.returns-clause-next
returns-clause-next c = next_exists

pub returns-clause-behind : goal.returns-clause-behind
returns-clause-behind c = stands_behind

pub returns-clause-answer : goal.returns-clause-answer
returns-clause-answer c = answers_exist
