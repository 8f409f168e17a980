-- The text of a body, with the names of its statement's inputs.
use Rattle.std.specs.Prelude.{ℕ, suc, pos, List, [], ◌++◌, codes, decimal, slice_index_or, Option, Some, None}
use Rattle.body_lang.specs.declared.loop_kind.LoopKind.{LoopKind}
use Rattle.body_lang.specs.declared.loop_kind.LoopKind.TheVariants.{Sum, Prod, Iter}
use Rattle.body_lang.specs.BodyTree.{BodyTree, BodyTrees, num, input, local, neg, op, choice, total, product, iterate, call, none, more}
use Rattle.utopist_syntax.specs.declared.position.Position.{Position}
use Rattle.utopist_syntax.specs.declared.position.Position.TheVariants.{Alone, Compared, Negated, LeftOf, RightOf}
use Rattle.utopist_syntax.specs.FractionText.{fraction_text}
use Rattle.utopist_syntax.specs.Round.{round, rounds_op, rounds_choice}
use Rattle.utopist_syntax.specs.ExprText.{op_text, cmp_text, loop_text, call_text}

-- the variable of a loop, by how many loops' rounds hold the loop
abbrev pub local_text : ℕ → List ℕ
local_text j = codes "%" ++ decimal j

-- the word of a loop, and its variable
abbrev pub loop_head_text : LoopKind → ℕ → List ℕ
loop_head_text kind rounds = loop_text kind ++ (codes "(" ++ local_text rounds)

-- the parts of a loop behind its variable
abbrev pub loop_parts_text : List ℕ → List ℕ → List ℕ → List ℕ
loop_parts_text a b e = (codes ", " ++ a) ++ ((codes ", " ++ b) ++ ((codes ", " ++ e) ++ codes ")"))

module _ (names : List (List ℕ)) where
  abbrev mutual
    -- a body at its position, inside the rounds of so many loops; subtasks and their outputs are counted from 1
    pub body_at : ℕ → Position → BodyTree → List ℕ
    body_at rounds p (num x) = fraction_text x
    body_at rounds p (input i) = slice_index_or names i []
    body_at rounds p (local j) = local_text j
    body_at rounds p (neg a) = codes "-" ++ body_at rounds Negated a
    body_at rounds p (op o a b) =
        round (rounds_op p o)
        (body_at rounds (LeftOf o) a ++ (op_text o ++ body_at rounds (RightOf o) b))
    body_at rounds p (choice c a b t e) =
        round (rounds_choice p)
        ((codes "if " ++ body_at rounds Compared a) ++ ((cmp_text c ++ body_at rounds Compared b)
        ++ ((codes " then " ++ body_at rounds Alone t) ++ (codes " else " ++ body_at rounds Alone e))))
    body_at rounds p (total a b e) =
        loop_head_text Sum rounds
        ++ loop_parts_text (body_at rounds Alone a) (body_at rounds Alone b) (body_at (suc rounds) Alone e)
    body_at rounds p (product a b e) =
        loop_head_text Prod rounds
        ++ loop_parts_text (body_at rounds Alone a) (body_at rounds Alone b) (body_at (suc rounds) Alone e)
    body_at rounds p (iterate a b e) =
        loop_head_text Iter rounds
        ++ loop_parts_text (body_at rounds Alone a) (body_at rounds Alone b) (body_at (suc rounds) Alone e)
    body_at rounds p (call k out args) = call_text (pos (suc k)) (pos (suc out)) (arguments_at rounds args)

    -- arguments joined by commas
    pub arguments_at : ℕ → BodyTrees → List ℕ
    arguments_at rounds none = []
    arguments_at rounds (more a rest) = body_at rounds Alone a ++ more_arguments_at rounds rest

    -- the arguments behind another
    pub more_arguments_at : ℕ → BodyTrees → List ℕ
    more_arguments_at rounds none = []
    more_arguments_at rounds (more a rest) =
        codes ", " ++ (body_at rounds Alone a ++ more_arguments_at rounds rest)

-- a body in braces, or nothing where there is none
abbrev pub body_in_braces : List (List ℕ) → Option BodyTree → List ℕ
body_in_braces names None = []
body_in_braces names (Some b) = codes " { " ++ (body_at names 0 Alone b ++ codes " }")
