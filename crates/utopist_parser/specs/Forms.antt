-- What reading a text answers.
use Rattle.std.specs.Prelude.{◌≡◌, ℕ, List, [], ◌∷◌, ◌++◌, map, Result, Ok, Err}
use Rattle.std.specs.Str.{chars}
use Rattle.utopist_lexer.specs.declared.fault.LexFault.{LexFault}
use Rattle.utopist_lexer.specs.Lexical.{Tok}
use Rattle.utopist_lexer.specs.Tokens.{Reads, FaultAt}
use Rattle.utopist_syntax.specs.declared.file.File.{File}
use Rattle.utopist_syntax.specs.FileTree.{FileTree, file_tree}
use Rattle.utopist_parser.specs.declared.parser.ParseFault.{ParseFault}
use Rattle.utopist_parser.specs.declared.parser.ParseFault.TheVariants as fault
use Rattle.token_forms.specs.Symbols.{symbol_of, end}
use Rattle.utopist_parser.specs.WrittenFile.{WrittenFile}
use Rattle.utopist_parser.specs.FileSymbols.{spell_file}
use Rattle.utopist_parser.specs.FileSeen.{see_file}
use Rattle.utopist_parser.specs.FileNesting.{IsFile}
use Rattle.utopist_parser.specs.Begins.{max_nesting, BeginsWithin, BeginsNone, BeginsTooDeep, FirstWrong}

-- the text reads as this tree: its tokens, and the end behind them, are a file within the limit that has it
pub record ReadsAs (text : List ℕ) (f : FileTree) : Type 0 where
  pub tokens : List Tok
  pub read : Reads (chars text) tokens
  pub written : WrittenFile
  pub within : IsFile max_nesting written
  pub grammar : map symbol_of tokens ++ (end ∷ []) ≡ spell_file written
  pub tree : see_file written ≡ f

-- the first fault of a text is this one, behind tokens that begin a file within the limit
pub record FirstFault (text : List ℕ) (f : LexFault) : Type 0 where
  pub before : List Tok
  pub fault : FaultAt (chars text) before f.place f.kind
  pub begins : BeginsWithin max_nesting (map symbol_of before)

-- the text reads as no tree
abbrev pub HasNoTree : List ℕ → Type 0
HasNoTree text = (f : FileTree) → ¬ ReadsAs text f

-- the one tree of a text; or its first fault or its first wrong token, and then it has no tree; nothing is said where memory ran out
abbrev pub ParseOf : List ℕ → Result File ParseFault → Type 0
ParseOf text (Ok f) = ReadsAs text (file_tree f) × ((g : FileTree) → ReadsAs text g → g ≡ file_tree f)
ParseOf text (Err (fault.Lex f)) = FirstFault text f × HasNoTree text
ParseOf text (Err (fault.Expected p)) = FirstWrong BeginsNone (chars text) p × HasNoTree text
ParseOf text (Err (fault.TooDeep p)) = FirstWrong BeginsTooDeep (chars text) p × HasNoTree text
ParseOf text (Err fault.NoMem) = Unit {0}

-- reading the text ends at this: the first fault of its tokens, or its first wrong token
abbrev pub FailsAs : List ℕ → ParseFault → Type 0
FailsAs text (fault.Lex f) = FirstFault text f
FailsAs text (fault.Expected p) = FirstWrong BeginsNone (chars text) p
FailsAs text (fault.TooDeep p) = FirstWrong BeginsTooDeep (chars text) p
FailsAs text fault.NoMem = ⊥
