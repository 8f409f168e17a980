-- The file 'concept a:(var x,y:numeric;eq x=(y+1)*-2;);compute a:(given x=4/6;find y);' with its symbols and its tree.
use Rattle.std.specs.Prelude.{◌≡◌, false, List, [], ◌∷◌, pos, codes, None, Some}
use Rattle.body_lang.specs.declared.op.Op.TheVariants as ops
use Rattle.utopist_lexer.specs.declared.word.Word.TheVariants as words
use Rattle.utopist_lexer.specs.declared.mark.Mark.TheVariants as marks
use Rattle.utopist_syntax.specs.declared.path.Path.{Path}
use Rattle.utopist_syntax.specs.declared.item.VarKind.TheVariants as kinds
use Rattle.utopist_syntax.specs.Named.{Named}
use Rattle.utopist_syntax.specs.ExprTree as tree
use Rattle.utopist_syntax.specs.FileTree as file
use Rattle.utopist_syntax.specs.FileTree.{FileTree}
use Rattle.token_forms.specs.Symbols.{Symbol, name, number, word, mark, end}
use Rattle.utopist_parser.specs.Written.{plus, times, plain, add, one_term, mul, negated, literal, round}
use Rattle.utopist_parser.specs.WrittenFile.{numeric, var, eq, WrittenFile}
use Rattle.utopist_parser.specs.FileSymbols.{spell_file}
use Rattle.utopist_parser.specs.FileSeen.{see_file}
use Rattle.utopist_parser.specs.Examples.{named_first, a, chain_of, term_of, leaf}
use Rattle.utopist_parser.specs.Examples as example

-- the name x
abbrev pub x : Named
x = named_first (codes "x")

-- the name y
abbrev pub y : Named
y = named_first (codes "y")

-- the file as it is written
abbrev pub written : WrittenFile
written = record {
  concepts =
      record {
        name = a;
        parents = None;
        items =
            var (record { first = x; more = y ∷ [] }) numeric
            ∷ eq (chain_of (example.var x)) (one_term (mul (term_of (round (plain (add (chain_of (example.var y)) plus (term_of (literal 1)))))) times (negated (literal 2))))
            ∷ [];
      }
      ∷ [];
  computes =
      record {
        name = a;
        givens = Some (record { first = record { path = record { first = x; more = [] }; value = Some (record { negative = false; above = 4; below = Some 5 }) }; more = [] });
        wants = record { first = record { first = y; more = [] }; more = [] };
      }
      ∷ [];
}

-- its symbols
abbrev pub file_symbols : List Symbol
file_symbols =
    word words.Concept ∷ name a ∷ mark marks.Colon ∷ mark marks.OpenRound
    ∷ word words.Var ∷ name x ∷ mark marks.Comma ∷ name y ∷ mark marks.Colon ∷ word words.Numeric ∷ mark marks.Semicolon
    ∷ word words.Eq ∷ name x ∷ mark marks.Equal ∷ mark marks.OpenRound ∷ name y ∷ mark marks.Plus ∷ number (pos 1) ∷ mark marks.CloseRound ∷ mark marks.Star ∷ mark marks.Minus ∷ number (pos 2) ∷ mark marks.Semicolon
    ∷ mark marks.CloseRound ∷ mark marks.Semicolon
    ∷ word words.Compute ∷ name a ∷ mark marks.Colon ∷ mark marks.OpenRound ∷ word words.Given ∷ name x ∷ mark marks.Equal ∷ number (pos 4) ∷ mark marks.Slash ∷ number (pos 6) ∷ mark marks.Semicolon
    ∷ word words.Find ∷ name y ∷ mark marks.CloseRound ∷ mark marks.Semicolon ∷ end ∷ []

-- a path of one name
abbrev pub single : Named → Path
single n = record { parts = n ∷ [] }

-- its tree
abbrev pub seen : FileTree
seen = record {
  concepts =
      record {
        name = a;
        parents = [];
        items =
            file.var (x ∷ y ∷ []) kinds.Numeric []
            ∷ file.eq (leaf x) (tree.op ops.Mul (tree.op ops.Add (leaf y) (tree.num (pos 1))) (tree.neg (tree.num (pos 2))))
            ∷ [];
      }
      ∷ [];
  computes = record { name = a; givens = record { path = single x; value = Some (record { num = pos 2; den = 3 }) } ∷ []; wants = single y ∷ [] } ∷ [];
}

-- the file has these symbols and this tree
abbrev pub AFileIsRead : Type 0
AFileIsRead = (spell_file written ≡ file_symbols) × (see_file written ≡ seen)
