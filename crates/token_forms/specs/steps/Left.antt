-- What is left of a text that is read token by token.
use Rattle.std.specs.Prelude.{ℕ, List}
use Rattle.token_forms.specs.Symbols.{Symbol}

-- a text, and the symbols that are left of it
pub record Left : Type 0 where
  pub text : List ℕ
  pub symbols : List Symbol
