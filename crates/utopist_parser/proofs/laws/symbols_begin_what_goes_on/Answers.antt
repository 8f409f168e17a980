use Rattle.utopist_parser.proofs.SameForms.{files_are, files_begin}
use Rattle.utopist_parser.proofs.laws.symbols_begin_what_goes_on.Goals as goal

pub returns-clause-files : goal.returns-clause-files
returns-clause-files c = files_are

pub returns-clause-begins : goal.returns-clause-begins
returns-clause-begins c = files_begin
