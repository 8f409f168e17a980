use Rattle.std.proofs.Common.{◌≡◌, map, take, drop}
use Rattle.std.specs.Prelude.{All}
use Rattle.statement_set.specs.Problem.{IsPlain}
use Rattle.utopist_syntax.specs.FileTree.{file_tree}
use Rattle.concept_unfold.specs.UnfoldingRules.{unfoldings_fault}
use Rattle.concept_unfold.specs.Unfolded.{problem_of}
use Rattle.file_accept.proofs.problems.unfold_all.Given as goal

-- the compute statements that are left decide
abbrev pub invariant-loop-which : goal.invariant-loop-which
invariant-loop-which l = record {
  left : unfoldings_fault (file_tree l.file) (file_tree l.file).computes
      ≡ unfoldings_fault (file_tree l.file) (drop l.which (file_tree l.file).computes);
  problems : l.problems ≡ map (problem_of (file_tree l.file)) (take l.which (file_tree l.file).computes);
  plain : All IsPlain l.problems;
}
