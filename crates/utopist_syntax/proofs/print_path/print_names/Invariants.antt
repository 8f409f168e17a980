use Rattle.std.proofs.Common.{◌≡◌, ◌++◌, drop}
use Rattle.std.specs.Io.{StartsWith}
use Rattle.utopist_syntax.specs.PathText.{names_text}
use Rattle.utopist_syntax.proofs.Joined.{left_by}
use Rattle.utopist_syntax.proofs.print_path.print_names.Given as goal

abbrev pub invariant-loop-name : goal.invariant-loop-name
invariant-loop-name l = record {
  kept : StartsWith l.out.items l.fn.out.items;
  left : l.out.items ++ left_by (λ n. n.text) l.between l.first (drop l.name-index l.names) ≡ l.fn.out.items ++ names_text l.between l.names;
}
