-- The problem of a file.
use Rattle.std.specs.Prelude.{ℕ, List, [], ◌∷◌, map, All, Option}
use Rattle.std.specs.List.{flat_map, position_or_len}
use Rattle.std.specs.Str.{bytes_eq}
use Rattle.statement_set.specs.declared.statement.Statement.{Statement}
use Rattle.statement_set.specs.declared.given.Given.{Given}
use Rattle.statement_set.specs.Problem.{Task}
use Rattle.utopist_syntax.specs.declared.path.Path.{Path}
use Rattle.utopist_syntax.specs.declared.item.Part.{Part}
use Rattle.utopist_syntax.specs.ExprTree.{ExprTree}
use Rattle.utopist_syntax.specs.declared.compute.Compute.{Compute}
use Rattle.utopist_syntax.specs.declared.compute.GivenPath.{GivenPath}
use Rattle.utopist_syntax.specs.FileTree.{ItemTree, var, eq, rel, FileTree}
use Rattle.concept_unfold.specs.Paths.{first_name, IsOneOf, inputs_of, input_names}
use Rattle.concept_unfold.specs.Bodies.{body_over}
use Rattle.concept_unfold.specs.Declarations.{all_variables, items_of}

-- the number of a variable is the place of its name among the variables
abbrev pub var_number : List (List ℕ) → Path → ℕ
var_number vars p = position_or_len (bytes_eq (first_name p).text) vars

-- each path is a variable
abbrev pub AreKnown : List (List ℕ) → List Path → Type 0
AreKnown vars paths = All (IsOneOf vars) paths

-- the statement of a relation
abbrev pub plain_statement : List (List ℕ) → List Part → Path → Option ExprTree → Statement
plain_statement vars parts output body = record {
  inputs = map (var_number vars) (inputs_of parts);
  subs = [];
  output = var_number vars output;
  body = body_over (input_names parts) body;
}

-- the statements that an item gives, of the forms that are built
abbrev pub statements_of : List (List ℕ) → ItemTree → List Statement
statements_of vars (var names kind binds) = []
statements_of vars (eq left right) = []
statements_of vars (rel name parts output body) = plain_statement vars parts output body ∷ []

-- what is given, with its value if it has one
abbrev pub given_of : List (List ℕ) → GivenPath → Given
given_of vars g = record { var = var_number vars g.path; value = g.value }

-- the problem of these items and a compute statement: variables, statements, what is given and what is wanted, each in
-- the order of the text
abbrev pub problem_from : List ItemTree → Compute → Task
problem_from items c = record {
  names = all_variables items;
  equations = [];
  statements = flat_map (statements_of (all_variables items)) items;
  givens = map (given_of (all_variables items)) c.givens;
  wants = map (var_number (all_variables items)) c.wants;
}

-- the problem of a compute statement of a file
abbrev pub problem_of : FileTree → Compute → Task
problem_of f c = problem_from (items_of f.concepts c.name.text) c
