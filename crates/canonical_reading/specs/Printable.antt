-- Trees of files whose canonical text has their tokens.
use Rattle.std.specs.Prelude.{◌≤◌, ℤ, All, length, unsigned_abs}
use Rattle.std.specs.Str.{IsUtf8, chars}
use Rattle.utopist_lexer.specs.declared.token.Kind.TheVariants as kinds
use Rattle.utopist_lexer.specs.Lexical.{Spells, max_name, max_number}
use Rattle.utopist_syntax.specs.Named.{Named}
use Rattle.utopist_syntax.specs.FileTree.{FileTree}
use Rattle.utopist_syntax.specs.Shape.{HasShape}
use Rattle.utopist_syntax.specs.TreeNames.{file_names}
use Rattle.canonical_reading.specs.TreeNumbers.{file_numbers}

-- text that spells a name and no keyword, and is not too long
pub record PrintableName (n : Named) : Type 0 where
  pub utf8 : IsUtf8 n.text
  pub spells : Spells kinds.Name (chars n.text)
  pub short : length n.text ≤ max_name

-- not past the greatest number, whatever the sign
abbrev pub PrintableInteger : ℤ → Type 0
PrintableInteger i = unsigned_abs i ≤ max_number

-- the shape of what was read, and each name and each number can be spelled
pub record Printable (f : FileTree) : Type 0 where
  pub shape : HasShape f
  pub names : All PrintableName (file_names f)
  pub numbers : All PrintableInteger (file_numbers f)
