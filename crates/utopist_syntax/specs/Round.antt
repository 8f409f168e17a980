-- Where parentheses stand.
use Rattle.std.specs.Prelude.{ℕ, List, [], ◌++◌, codes, Bool, true, false, ◌&&◌, ◌||◌, not, if◌then◌else◌}
use Rattle.body_lang.specs.declared.op.Op.{Op}
use Rattle.body_lang.specs.declared.op.Op.TheVariants.{Add, Sub, Mul, Div}
use Rattle.utopist_syntax.specs.declared.position.Position.{Position}
use Rattle.utopist_syntax.specs.declared.position.Position.TheVariants.{Alone, Compared, Negated, LeftOf, RightOf}

-- `+` and `-` are one level, `*` and `/` the other
abbrev pub is_sum : Op → Bool
is_sum Add = true
is_sum Sub = true
is_sum Mul = false
is_sum Div = false

-- one binds less than the other: a sum under a product
abbrev pub is_looser : Op → Op → Bool
is_looser inner outer = is_sum inner && not (is_sum outer)

-- both are of one level
abbrev pub is_level : Op → Op → Bool
is_level inner outer = if is_sum inner then is_sum outer else not (is_sum outer)

-- an operator's node has parentheses under a minus, under an operator that binds more, and on the right of its own level
abbrev pub rounds_op : Position → Op → Bool
rounds_op Alone o = false
rounds_op Compared o = false
rounds_op Negated o = true
rounds_op (LeftOf outer) o = is_looser o outer
rounds_op (RightOf outer) o = is_looser o outer || is_level o outer

-- a choice has them wherever it does not stand alone
abbrev pub rounds_choice : Position → Bool
rounds_choice Alone = false
rounds_choice Compared = true
rounds_choice Negated = true
rounds_choice (LeftOf outer) = true
rounds_choice (RightOf outer) = true

-- a text that stands only where it is needed
abbrev pub if_needed : Bool → List ℕ → List ℕ
if_needed needed t = if needed then t else []

-- in parentheses where they are needed
abbrev pub round : Bool → List ℕ → List ℕ
round needed t = if_needed needed (codes "(") ++ (t ++ if_needed needed (codes ")"))
