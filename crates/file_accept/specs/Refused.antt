-- The texts that are refused, and why.
use Rattle.std.specs.Prelude.{◌≡◌, ℕ, ◌⊎◌, List, Err}
use Rattle.std.specs.Str.{chars}
use Rattle.priz_base.specs.declared.place.Place.{Place}
use Rattle.utopist_lexer.specs.Lexical.{Tok}
use Rattle.utopist_lexer.specs.Tokens.{Reads}
use Rattle.utopist_syntax.specs.FileTree.{FileTree}
use Rattle.utopist_parser.specs.Begins.{BeginsNone, BeginsTooDeep, FirstWrong}
use Rattle.utopist_parser.specs.Forms.{ReadsAs, FirstFault}
use Rattle.concept_unfold.specs.Built.{IsBuilt}
use Rattle.concept_unfold.specs.UnfoldingRules.{model_fault}
use Rattle.file_accept.specs.declared.fault.FileFault.{FileFault}
use Rattle.file_accept.specs.declared.fault.FileFault.TheVariants as fault
use Rattle.file_accept.specs.Unbuilt.{not_solved, FirstLeftOut}

-- the text reads as a file, of whose tokens the first that begins a form that is not built stands here
pub record IsUnbuilt (text : List ℕ) (place : Place) : Type 0 where
  pub file : FileTree
  pub tree : ReadsAs text file
  pub tokens : List Tok
  pub read : Reads (chars text) tokens
  pub first : FirstLeftOut not_solved tokens place

-- this is wrong with the text
abbrev pub Refuses : List ℕ → FileFault → Type 0
-- it has this fault of a token, behind tokens that begin a file
Refuses text (fault.Lex f) = FirstFault text f
-- with this token no file begins, or it is the first of a form that is not built
Refuses text (fault.Expected p) = FirstWrong BeginsNone (chars text) p ⊎ IsUnbuilt text p
-- with this token only files begin that are nested too deep
Refuses text (fault.TooDeep p) = FirstWrong BeginsTooDeep (chars text) p
-- of the rules, this one is the first that the file breaks that it reads as
Refuses text (fault.Model m) = (f : FileTree) × ReadsAs text f × IsBuilt f × (model_fault f ≡ Err m)
-- want of memory says nothing of the text
Refuses text fault.NoMem = ⊥
