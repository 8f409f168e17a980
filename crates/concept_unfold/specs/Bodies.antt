-- The body of a statement, in which inputs and loops go by their numbers.
use Rattle.std.specs.Prelude.{ℕ, List, [], ◌∷◌, length, Option, Some, None, if◌then◌else◌}
use Rattle.std.specs.Str.{bytes_eq}
use Rattle.std.specs.List.{position_or_len}
use Rattle.priz_frac.specs.Whole.{whole}
use Rattle.body_lang.specs.BodyTree as body
use Rattle.body_lang.specs.BodyTree.{BodyTree}
use Rattle.body_lang.specs.declared.loop_kind.LoopKind.{LoopKind}
use Rattle.body_lang.specs.declared.loop_kind.LoopKind.TheVariants.{Sum, Prod, Iter}
use Rattle.utopist_syntax.specs.ExprTree.{ExprTree, num, path, neg, op, choice, loop, call}
use Rattle.concept_rules.specs.Paths.{first_of}

-- the number of a loop, counted from the outside; the names of loops stand from the inside
abbrev pub loop_number : List ℕ → List (List ℕ) → Option ℕ
loop_number name [] = None
loop_number name (n ∷ around) =
    if bytes_eq name n then Some (length around) else loop_number name around

-- the loop's variable, or the input where there is no loop
abbrev pub loop_or_input : Option ℕ → ℕ → BodyTree
loop_or_input (Some j) i = body.local j
loop_or_input None i = body.input i

-- what a name stands for: the loop of this name, or the first input
abbrev pub named : List (List ℕ) → List (List ℕ) → List ℕ → BodyTree
named inputs rounds name =
    loop_or_input (loop_number name rounds) (position_or_len (bytes_eq name) inputs)

-- a loop of each kind
abbrev pub loop_body : LoopKind → BodyTree → BodyTree → BodyTree → BodyTree
loop_body Sum a b e = body.total a b e
loop_body Prod a b e = body.product a b e
loop_body Iter a b e = body.iterate a b e

-- an expression inside the rounds of these loops, of the forms that are built
abbrev pub expr_body : List (List ℕ) → List (List ℕ) → ExprTree → BodyTree
expr_body inputs rounds (num n) = body.num (whole n)
expr_body inputs rounds (path names) = named inputs rounds (first_of names).text
expr_body inputs rounds (neg a) = body.neg (expr_body inputs rounds a)
expr_body inputs rounds (op o a b) =
    body.op o (expr_body inputs rounds a) (expr_body inputs rounds b)
expr_body inputs rounds (choice c a b t e) =
    body.choice c (expr_body inputs rounds a) (expr_body inputs rounds b)
    (expr_body inputs rounds t) (expr_body inputs rounds e)
expr_body inputs rounds (loop kind n a b e) =
    loop_body kind (expr_body inputs rounds a) (expr_body inputs rounds b)
    (expr_body inputs (n.text ∷ rounds) e)
expr_body inputs rounds (call k out place args) = body.call 0 0 body.none

-- the body over these inputs, if there is one
abbrev pub body_over : List (List ℕ) → Option ExprTree → Option BodyTree
body_over inputs None = None
body_over inputs (Some e) = Some (expr_body inputs [] e)
