use Rattle.utopist_syntax.specs.FileTree.{file_tree}
use Rattle.canonical_reading.proofs.FileForms.{file_has_pieces}
use Rattle.canonical_reading.proofs.PartsPrint.{parts_print}
use Rattle.canonical_reading.proofs.laws.canonical_text_has_its_tokens.Goals as goal

pub returns : goal.returns
returns = λ c f h. file_has_pieces f (parts_print (file_tree f) h)
