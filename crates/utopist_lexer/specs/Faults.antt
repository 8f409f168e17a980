-- Why no token stands at the front of some characters.
use Rattle.std.specs.Prelude.{◌≡◌, ◌⊎◌, ◌<◌, ℕ, false, List, [], ◌∷◌, ◌++◌, length}
use Rattle.std.specs.Char.{is_ascii_digit}
use Rattle.std.specs.Str.{encode_utf8_all}
use Rattle.utopist_lexer.specs.declared.token.Kind.{Kind}
use Rattle.utopist_lexer.specs.declared.token.Kind.TheVariants as kinds
use Rattle.utopist_lexer.specs.declared.fault.LexKind.{LexKind}
use Rattle.utopist_lexer.specs.declared.fault.LexKind.TheVariants as fault
use Rattle.utopist_lexer.specs.Lexical.{Spells, IsLongest, IsFree, IsNumeral, max_name, max_number}

-- the longest front that spells a token, limits apart
pub record Front (cs : List ℕ) : Type 0 where
  pub kind : Kind
  pub text : List ℕ
  pub rest : List ℕ
  pub split : cs ≡ text ++ rest
  pub longest : IsLongest kind text rest

-- a $ that no digit follows
abbrev pub IsLoneDollar : List ℕ → Type 0
IsLoneDollar [] = ⊥
IsLoneDollar (c ∷ []) = c ≡ 36
IsLoneDollar (c ∷ d ∷ cs) = (c ≡ 36) × (is_ascii_digit d ≡ false)

-- what is wrong with these characters, of which the first is no blank and begins no comment
abbrev pub Faulty : LexKind → List ℕ → Type 0
-- a name that is too long
Faulty fault.NameTooLong cs = (x : Front cs) × (x.kind ≡ kinds.Name) × (max_name < length (encode_utf8_all x.text))
-- a lone $, or a number, with $ or without, that isn't free behind
Faulty fault.BadNumber cs = IsLoneDollar cs ⊎ ((x : Front cs) × (n : ℕ) × IsNumeral x.kind n × ¬ IsFree x.rest)
-- a number, with $ or without, that is free behind and too great
Faulty fault.NumberTooWide cs = (x : Front cs) × (n : ℕ) × IsNumeral x.kind n × IsFree x.rest × (max_number < n)
-- no lone $, and no front spells a token
Faulty fault.BadChar cs = ¬ IsLoneDollar cs × ((k : Kind) (text rest : List ℕ) → cs ≡ text ++ rest → ¬ Spells k text)
