-- Small problems on which the definitions are tried.
use Rattle.std.specs.Prelude.{ℕ, pos, List, [], ◌∷◌, codes, Some, None}
use Rattle.priz_frac.specs.Whole.{whole}
use Rattle.body_lang.specs.declared.op.Op.TheVariants.{Add, Sub, Mul}
use Rattle.body_lang.specs.BodyTree.{BodyTree, num, input, local, op, total, call, none, more}
use Rattle.statement_set.specs.declared.subtask.Subtask.{Subtask}
use Rattle.statement_set.specs.declared.statement.Statement.{Statement}
use Rattle.statement_set.specs.declared.given.Given.{Given}
use Rattle.statement_set.specs.Problem.{Task}
use Rattle.statement_set.specs.Formula.{atom, imp}
use Rattle.statement_set.specs.Derivation.{Derivation, assume, imp_elim}

-- a program from u to these variables is needed
abbrev pub from_to : ℕ → List ℕ → Subtask
from_to u vs = record { inputs = u ∷ []; outputs = vs }

-- the output from the inputs alone, by this body
abbrev pub formula_for : ℕ → List ℕ → BodyTree → Statement
formula_for v inputs body = record { inputs = inputs; subs = []; output = v; body = Some body }

-- the number n
abbrev pub one_number : ℕ → BodyTree
one_number n = num (whole (pos n))

-- the sum of e over i from 1 to the first input
abbrev pub sum_to_input : BodyTree → BodyTree
sum_to_input e = total (one_number 1) (input 0) e

-- an output of the first subtask at i
abbrev pub at_index : ℕ → BodyTree
at_index out = call 0 out (more (local 0) none)

-- what is given, without a value
abbrev pub is_given : ℕ → Given
is_given v = record { var = v; value = None }

-- the sum of squares: y = x * x, and t from n and a program from x to y; n is given, and t is wanted
abbrev pub squares_sum : Task
squares_sum = record {
  names = codes "x" ∷ codes "y" ∷ codes "n" ∷ codes "t" ∷ [];
  equations = [];
  statements =
      formula_for 1 (0 ∷ []) (op Mul (input 0) (input 0))
      ∷ record { inputs = 2 ∷ []; subs = from_to 0 (1 ∷ []) ∷ []; output = 3; body = Some (sum_to_input (at_index 0)) } ∷ [];
  givens = is_given 2 ∷ [];
  wants = 3 ∷ [];
}

-- a subtask with two outputs: y = x * x, z = x + 1, x = z - 1, and t from n and a program from x to y and z
abbrev pub two_outputs : Task
two_outputs = record {
  names = codes "x" ∷ codes "y" ∷ codes "z" ∷ codes "n" ∷ codes "t" ∷ [];
  equations = [];
  statements =
      formula_for 1 (0 ∷ []) (op Mul (input 0) (input 0))
      ∷ formula_for 2 (0 ∷ []) (op Add (input 0) (one_number 1))
      ∷ formula_for 0 (2 ∷ []) (op Sub (input 0) (one_number 1))
      ∷ record {
        inputs = 3 ∷ [];
        subs = from_to 0 (1 ∷ 2 ∷ []) ∷ [];
        output = 4;
        body = Some (sum_to_input (op Sub (at_index 0) (at_index 1)));
      } ∷ [];
  givens = is_given 3 ∷ [];
  wants = 4 ∷ [];
}

-- p from a program from p to q, with p wanted and nothing given: a law of classical logic alone
abbrev pub peirce : Task
peirce = record {
  names = codes "p" ∷ codes "q" ∷ [];
  equations = [];
  statements = record { inputs = []; subs = from_to 0 (1 ∷ []) ∷ []; output = 0; body = None } ∷ [];
  givens = [];
  wants = 0 ∷ [];
}

-- t of the sum of squares by two implications, whose premises are hypotheses
abbrev pub squares_tree : Derivation
squares_tree = imp_elim (atom 2) (imp_elim (imp (atom 0) (atom 1)) assume assume) assume
