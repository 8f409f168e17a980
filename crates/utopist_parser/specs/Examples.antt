-- Expressions as they are written, to see the grammar at work.
use Rattle.std.specs.Prelude.{◌≡◌, ℕ, zero, suc, false, true, List, [], ◌∷◌, pos, negsuc, codes, None, Some}
use Rattle.body_lang.specs.declared.op.Op.TheVariants as ops
use Rattle.body_lang.specs.declared.cmp.Cmp.TheVariants as cmps
use Rattle.body_lang.specs.declared.loop_kind.LoopKind.TheVariants as loops
use Rattle.utopist_lexer.specs.Places.{first_place}
use Rattle.utopist_lexer.specs.declared.word.Word.TheVariants as words
use Rattle.utopist_lexer.specs.declared.mark.Mark.TheVariants as marks
use Rattle.utopist_syntax.specs.Named.{Named}
use Rattle.utopist_syntax.specs.ExprTree as tree
use Rattle.utopist_syntax.specs.ExprTree.{ExprTree}
use Rattle.token_forms.specs.Symbols.{Symbol, name, sub, number, word, mark}
use Rattle.utopist_parser.specs.Written.{plus, minus, times, Expression, choice, plain, Chain, one_term, add, Term, one_factor, mul, Factor, negated, literal, variable, round, call, loop, no_more, and_then}
use Rattle.utopist_parser.specs.ExprSymbols.{spell_chain}
use Rattle.utopist_parser.specs.ExprTree.{see_chain}
use Rattle.utopist_parser.specs.Nesting.{nest_chain}
use Rattle.utopist_parser.specs.FileSeen.{see_value}

-- a chain as it is written has these symbols, this tree and this nesting
pub record HasReading (written : Chain) (symbols : List Symbol) (seen : ExprTree) (nesting : ℕ) : Type 0 where
  pub spelled : spell_chain written ≡ symbols
  pub tree : see_chain written ≡ seen
  pub nested : nest_chain written ≡ nesting

-- ---- parts

-- the name of these bytes, at the first place
abbrev pub named_first : List ℕ → Named
named_first letter = record { text = letter; place = first_place }

-- the name a
abbrev pub a : Named
a = named_first (codes "a")

-- the name b
abbrev pub b : Named
b = named_first (codes "b")

-- a variable as a factor
abbrev pub var : Named → Factor
var n = variable (record { first = n; more = [] })

-- a factor as a term of its own
abbrev pub term_of : Factor → Term
term_of f = one_factor f

-- a factor as a chain of its own
abbrev pub chain_of : Factor → Chain
chain_of f = one_term (term_of f)

-- a factor as an expression of its own
abbrev pub expr_of : Factor → Expression
expr_of f = plain (chain_of f)

-- a variable's tree
abbrev pub leaf : Named → ExprTree
leaf n = tree.path (n ∷ [])

-- ---- differences and products

-- a - b - a
abbrev pub differences : Chain
differences = add (add (chain_of (var a)) minus (term_of (var b))) minus (term_of (var a))

-- of two differences the left one is taken first
abbrev pub DifferencesGroupFromTheLeft : Type 0
DifferencesGroupFromTheLeft =
    HasReading differences (name a ∷ mark marks.Minus ∷ name b ∷ mark marks.Minus ∷ name a ∷ []) (tree.op ops.Sub (tree.op ops.Sub (leaf a) (leaf b)) (leaf a)) 3

-- (a + 1) * -2
abbrev pub product : Chain
product = one_term (mul (term_of (round (plain (add (chain_of (var a)) plus (term_of (literal 1)))))) times (negated (literal 2)))

-- parentheses leave no node, and a minus binds more than a product
abbrev pub ParenthesesVanish : Type 0
ParenthesesVanish =
    HasReading product
    (mark marks.OpenRound ∷ name a ∷ mark marks.Plus ∷ number (pos 1) ∷ mark marks.CloseRound ∷ mark marks.Star ∷ mark marks.Minus ∷ number (pos 2) ∷ [])
    (tree.op ops.Mul (tree.op ops.Add (leaf a) (tree.num (pos 1))) (tree.neg (tree.num (pos 2)))) 4

-- ---- a choice, a call and a loop

-- if a < b then $1(a, b) else sum(b, 1, a.b, b)
abbrev pub branches : Expression
branches =
    choice (chain_of (var a)) cmps.Less (chain_of (var b)) (expr_of (call (1, 2) first_place (expr_of (var a)) (and_then (expr_of (var b)) no_more)))
    (expr_of (loop loops.Sum b (expr_of (literal 1)) (expr_of (variable (record { first = a; more = b ∷ [] }))) (expr_of (var b))))

-- a choice in parentheses holds a call and a loop, and in the loop a path of two names
abbrev pub ChoicesHoldCallsAndLoops : Type 0
ChoicesHoldCallsAndLoops =
    HasReading (chain_of (round branches))
    (mark marks.OpenRound ∷ word words.If ∷ name a ∷ mark marks.Less ∷ name b ∷ word words.Then ∷ sub (pos 1) (pos 2) first_place ∷ mark marks.OpenRound ∷ name a ∷ mark marks.Comma ∷ name b ∷ mark marks.CloseRound
    ∷ word words.Else ∷ word words.Sum ∷ mark marks.OpenRound ∷ name b ∷ mark marks.Comma ∷ number (pos 1) ∷ mark marks.Comma ∷ name a ∷ mark marks.Dot ∷ name b ∷ mark marks.Comma ∷ name b ∷ mark marks.CloseRound ∷ mark marks.CloseRound ∷ [])
    (tree.choice cmps.Less (leaf a) (leaf b) (tree.call (pos 1) (pos 2) first_place (tree.more (leaf a) (tree.more (leaf b) tree.none)))
    (tree.loop loops.Sum b (tree.num (pos 1)) (tree.path (a ∷ b ∷ [])) (leaf b))) 4

-- ---- nesting

-- a + a + .. + a, with so many signs
abbrev pub sum_chain : ℕ → Chain
sum_chain zero = chain_of (var a)
sum_chain (suc n) = add (sum_chain n) plus (term_of (var a))

-- a + 1 in so many parentheses
abbrev pub rounds_of : ℕ → Chain
rounds_of zero = add (chain_of (var a)) plus (term_of (literal 1))
rounds_of (suc n) = chain_of (round (plain (rounds_of n)))

-- 64 terms are nested 64 deep, and so are 62 parentheses round a sum; one more of either is one deeper
abbrev pub EachTermAndEachParenthesisCounts : Type 0
EachTermAndEachParenthesisCounts = (nest_chain (sum_chain 63) ≡ 64) × (nest_chain (sum_chain 64) ≡ 65) × (nest_chain (rounds_of 62) ≡ 64) × (nest_chain (rounds_of 63) ≡ 65)

-- ---- 4/6, -3, and -0/5

-- a number is a fraction in lowest terms
abbrev pub NumbersAreInLowestTerms : Type 0
NumbersAreInLowestTerms =
    (see_value (record { negative = false; above = 4; below = Some 5 }) ≡ record { num = pos 2; den = 3 })
    × (see_value (record { negative = true; above = 3; below = None }) ≡ record { num = negsuc 2; den = 1 })
    × (see_value (record { negative = true; above = 0; below = Some 4 }) ≡ record { num = pos 0; den = 1 })
