-- The characters of keywords and marks.
use Rattle.std.specs.Prelude.{ℕ, List, codes}
use Rattle.utopist_lexer.specs.declared.word.Word.{Word}
use Rattle.utopist_lexer.specs.declared.word.Word.TheVariants as words
use Rattle.utopist_lexer.specs.declared.mark.Mark.{Mark}
use Rattle.utopist_lexer.specs.declared.mark.Mark.TheVariants as marks

-- the characters of a keyword
abbrev pub word_text : Word → List ℕ
word_text words.Concept = codes "concept"
word_text words.Is = codes "is"
word_text words.Var = codes "var"
word_text words.Numeric = codes "numeric"
word_text words.Eq = codes "eq"
word_text words.Rel = codes "rel"
word_text words.Compute = codes "compute"
word_text words.Given = codes "given"
word_text words.Find = codes "find"
word_text words.If = codes "if"
word_text words.Then = codes "then"
word_text words.Else = codes "else"
word_text words.Sum = codes "sum"
word_text words.Prod = codes "prod"
word_text words.Iter = codes "iter"

-- the characters of a mark
abbrev pub mark_text : Mark → List ℕ
mark_text marks.OpenRound = codes "("
mark_text marks.CloseRound = codes ")"
mark_text marks.OpenSquare = codes "["
mark_text marks.CloseSquare = codes "]"
mark_text marks.OpenCurly = codes "{"
mark_text marks.CloseCurly = codes "}"
mark_text marks.Colon = codes ":"
mark_text marks.Semicolon = codes ";"
mark_text marks.Comma = codes ","
mark_text marks.Dot = codes "."
mark_text marks.Equal = codes "="
mark_text marks.Less = codes "<"
mark_text marks.AtMost = codes "<="
mark_text marks.Plus = codes "+"
mark_text marks.Minus = codes "-"
mark_text marks.Star = codes "*"
mark_text marks.Slash = codes "/"
mark_text marks.Arrow = codes "->"
