-- The line of counts, which is written piece by piece.
use Rattle.std.proofs.Common.{◌≡◌, ℕ, List, ◌++◌, length, append_assoc}
use Rattle.std.specs.Prelude.{codes, decimal}
use Rattle.statement_set.specs.Problem.{Task, var_count}
use Rattle.problem_text.specs.ProblemText.{counts_line}

four_pieces : (start a b c d e f g s t u v : List ℕ) → s ≡ start ++ a → t ≡ s ++ (b ++ c) → u ≡ t ++ (d ++ e) → v ≡ u ++ (f ++ g) → v ≡ start ++ ((a ++ (b ++ c)) ++ ((d ++ e) ++ (f ++ g)))
four_pieces start a b c d e f g s t u v one two three four = rw (four, three, two, one) (simp append_assoc)

pub counts_written : (p : Task) (index i n m : ℕ) (start s t u v : List ℕ) → i ≡ index → n ≡ var_count p → m ≡ length p.statements → s ≡ start ++ codes "compute " → t ≡ s ++ (decimal i ++ codes ": ") → u ≡ t ++ (decimal n ++ codes " variables, ") → v ≡ u ++ (decimal m ++ codes " statements\n") → v ≡ start ++ counts_line p index
counts_written p index i n m start s t u v is_index is_vars is_statements one two three four =
    four_pieces start (codes "compute ") (decimal index) (codes ": ") (decimal (var_count p)) (codes " variables, ") (decimal (length p.statements)) (codes " statements\n") s t u v one
    (rw is_index at two) (rw is_vars at three) (rw is_statements at four)
