use Rattle.utopist_syntax.specs.FileTree.{file_tree}
use Rattle.file_accept.proofs.Unfolds.{unfolding_decides}
use Rattle.file_accept.proofs.problems.unfold_file.Goals as goal

pub returns-clause-rules : goal.returns-clause-rules
returns-clause-rules c = unfolding_decides (file_tree c.args.file.now) c.unfold_all.result c.in_ok-check_concepts.ensures.rules c.unfold_all.ensures.rules
