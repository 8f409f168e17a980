use Rattle.std.proofs.Common.{◌≤◌, List, length, sym, subst}
use Rattle.statement_set.specs.Problem.{Task}
use Rattle.utopist_syntax.specs.FileTree.{file_tree}
use Rattle.file_accept.proofs.Steps.{breaks_none}
use Rattle.file_accept.proofs.Unfolds.{few_problems}
use Rattle.file_accept.proofs.problems.problems_of.Goals as goal

pub returns-clause-problems : goal.returns-clause-problems
returns-clause-problems c = breaks_none c.args.text.now c.in_ok-file.file c.in_ok-unfold_file.field-0 c.in_ok-file.ensures.form c.in_ok-unfold_file.ensures.rules c.in_ok-unfold_file.ensures.problems

pub returns-clause-few : goal.returns-clause-few
returns-clause-few c =
    subst (λ (ps : List Task). length ps ≤ 64) (sym c.in_ok-unfold_file.ensures.problems) (few_problems (file_tree c.in_ok-file.file) c.in_ok-file.ensures.form.1 c.in_ok-unfold_file.ensures.rules)
