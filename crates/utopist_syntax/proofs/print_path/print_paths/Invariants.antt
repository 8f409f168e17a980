use Rattle.std.proofs.Common.{◌≡◌, ◌++◌, drop}
use Rattle.std.specs.Prelude.{codes}
use Rattle.std.specs.Io.{StartsWith}
use Rattle.utopist_syntax.specs.PathText.{path_text, paths_text}
use Rattle.utopist_syntax.proofs.Joined.{left_by}
use Rattle.utopist_syntax.proofs.print_path.print_paths.Given as goal

abbrev pub invariant-loop-path : goal.invariant-loop-path
invariant-loop-path l = record {
  kept : StartsWith l.out.items l.fn.out.items;
  left : l.out.items ++ left_by path_text (codes ", ") l.first (drop l.path-index l.paths) ≡ l.fn.out.items ++ paths_text l.paths;
}
