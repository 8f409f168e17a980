-- The statements of an equation: one for each variable that stands in it once.
use Rattle.std.specs.Prelude.{ℕ, pos, List, [], ◌∷◌, ◌++◌, map, not, Some, ◌==◌}
use Rattle.std.specs.List.{filter, position_or_len}
use Rattle.priz_frac.specs.Whole.{whole}
use Rattle.body_lang.specs.BodyTree.{BodyTree}
use Rattle.body_lang.specs.BodyTree as body
use Rattle.body_lang.specs.Equations.{Sides}
use Rattle.body_lang.specs.Occurrences.{occurrences_in}
use Rattle.body_lang.specs.Inverse.{solved}
use Rattle.statement_set.specs.declared.statement.Statement.{Statement}

-- arithmetic in which each variable goes by another number
abbrev pub renumbered : (ℕ → ℕ) → BodyTree → BodyTree
renumbered f (body.num x) = body.num x
renumbered f (body.input v) = body.input (f v)
renumbered f (body.neg a) = body.neg (renumbered f a)
renumbered f (body.op o a b) = body.op o (renumbered f a) (renumbered f b)
renumbered f _ = body.num (whole (pos 0))

-- the variables of a side, in order, each as often as it stands there
abbrev pub variables_in : BodyTree → List ℕ
variables_in (body.input v) = v ∷ []
variables_in (body.neg a) = variables_in a
variables_in (body.op o a b) = variables_in a ++ variables_in b
variables_in _ = []

-- those of both sides
abbrev pub variables_on : Sides → List ℕ
variables_on e = variables_in e.left ++ variables_in e.right

-- each number once, where it stands first
abbrev pub firsts : List ℕ → List ℕ
firsts [] = []
firsts (v ∷ vs) = v ∷ filter (λ w. not (w == v)) (firsts vs)

-- the variables that stand in an equation once
abbrev pub stand_once : Sides → List ℕ
stand_once e = filter (λ v. occurrences_in v e == 1) (variables_on e)

-- the variables but v
abbrev pub others : ℕ → Sides → List ℕ
others v e = filter (λ w. not (w == v)) (firsts (variables_on e))

-- the statement that solves it for v
abbrev pub solving_statement : Sides → ℕ → Statement
solving_statement e v = record {
  inputs = others v e;
  subs = [];
  output = v;
  body = Some (renumbered (λ w. position_or_len (λ u. u == w) (others v e)) (solved v e));
}

-- the statements that an equation gives
abbrev pub solving_statements : Sides → List Statement
solving_statements e = map (solving_statement e) (stand_once e)
